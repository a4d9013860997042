-- Numbers as DWARF 5 writes them: LEB128 (7.6), and fixed widths in either byte order (7.5 and its forms).
use Rattle.std.specs.Prelude.{ℕ, zero, suc, ◌+◌, ◌*◌, ◌-◌, ◌^◌, ◌/◌, ◌%◌, Bool, true, false, List, [], ◌∷◌, reverse, leb, ltb, None, Option, Some}
use Rattle.readers.specs.Choice.{pick, check, bind}

-- ---- LEB128

-- A number that was read: how many of its bytes said that another follows, its value, and what is left.
abbrev pub Groups : Type 0
Groups = ℕ × ℕ × List ℕ

unfoldable pub below : ℕ → Groups → Option Groups
below b t = Some (suc t.0, b - 128 + 128 * t.1, t.2)

-- 7.6: seven bits a byte, the lowest first; the top bit says that another byte follows. At most k bytes.
unfoldable pub groups : ℕ → List ℕ → Option Groups
groups zero s = None
groups (suc k) [] = None
groups (suc k) (b ∷ s) = pick (ltb b 128) (Some (0, b, s)) (bind (groups k s) (below b))

unfoldable pub unsigned64 : Groups → Option Groups
unsigned64 t = check (ltb t.1 (2 ^ 64)) (Some t)

-- An unsigned number: at most ten bytes, within 64 bits (document 01, "Readers"). Padding is taken.
unfoldable pub uleb : List ℕ → Option Groups
uleb s = bind (groups 10 s) unsigned64

-- 7.6: bit 6 of the last byte is the sign. The value is kept as the 64 bits of its two's complement.
unfoldable pub negative : ℕ → ℕ → Bool
negative n v = leb (64 * 128 ^ n) v

unfoldable pub signed64 : Groups → Option Groups
signed64 t =
    pick (negative t.0 t.1)
    (check (leb (128 ^ suc t.0) (t.1 + 2 ^ 63)) (Some (t.0, t.1 + 2 ^ 64 - 128 ^ suc t.0, t.2)))
    (check (ltb t.1 (2 ^ 63)) (Some t))

-- A signed number: at most ten bytes, within 64 bits as a signed number.
unfoldable pub sleb : List ℕ → Option Groups
sleb s = bind (groups 10 s) signed64

-- v in n bytes that say that another follows, and a last one: the writer's side, padding kept
unfoldable pub padded : ℕ → ℕ → List ℕ
padded zero v = v ∷ []
padded (suc n) v = (128 + v % 128) ∷ padded n (v / 128)

-- ---- fixed widths: a number in w bytes, least significant first or, where big, most significant first

unfoldable pub little_bytes : ℕ → ℕ → List ℕ
little_bytes zero v = []
little_bytes (suc w) v = (v % 256) ∷ little_bytes w (v / 256)

unfoldable pub little_value : List ℕ → ℕ
little_value [] = 0
little_value (b ∷ s) = b + 256 * little_value s

-- byte order: the bytes from the least significant to the most
unfoldable pub ordered : Bool → List ℕ → List ℕ
ordered true s = reverse s
ordered false s = s

unfoldable pub fixed_bytes : Bool → ℕ → ℕ → List ℕ
fixed_bytes big w v = ordered big (little_bytes w v)

unfoldable pub fixed_value : Bool → List ℕ → ℕ
fixed_value big s = little_value (ordered big s)
