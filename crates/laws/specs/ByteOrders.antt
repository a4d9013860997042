-- The same sections, told the other byte order (document 02, Point 12: "told by an argument .. and not guessed").
use Rattle.std.specs.Prelude.{not}
use Rattle.marking.specs.Analysis.{Sections, sections}

abbrev pub other_order : Sections → Sections
other_order x =
    sections x.abbreviations x.locations x.ranges x.addresses x.debug_ranges x.keep
    (record {
      ranges_base = x.setting.ranges_base;
      big_endian = not x.setting.big_endian;
      fixed_addresses = x.setting.fixed_addresses;
    })
