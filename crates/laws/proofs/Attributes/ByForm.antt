-- The numbers of a kept entry's attributes by the forms that document 01 names. Assumes nothing but the answer.
use mathlib.Core.Path.{◌≡◌, refl, ap, sym, ◌∙◌, subst}
use Prim.Native.Nat.{ℕ, zero, suc, ◌+◌, ◌<◌}
use native.Mathlib.Omega.{arith}
use mathlib.Core.Bool.{Bool, true, false, not}
use Rattle.std.specs.Prelude.{Ok, Option, Some}
use Rattle.readers.specs.declared.abbreviations.Declaration.{Declaration}
use mathlib.Core.List.{List, [], ◌∷◌, ◌++◌, append-nil}
use mathlib.Core.Logic.{⊎_elim}
use lib.ListN.{length, drop, length-append}
use lib.Seq.{drop-drop}
use lib.Dec.{T, eqb, leb}
use mir.Facts.{leb_yes, yes_leb, eqb_yes, eqb_no, yes_eqb, no_eqb}
use Rattle.readers.specs.Choice.{pick, ◌and◌, ◌or◌}
use Rattle.readers.proofs.Choice.{pick_yes, pick_no, either, all_of, and_both, both-and}
use Rattle.readers.specs.Layout.{Kind, Encoded, Role, reference, type_reference, sibling, index, absolute, Token, nothing, number, bounded, forms, signed, link, string, run, block, expression, unknown, Layout, patchable, Read, ExpressionReader, as_bytes, token_in, read_in, bytes_of, write_all, Patch}
use Rattle.readers.proofs.LayoutLaws.{ReadLaw, read-law}
use Rattle.readers.specs.Expression.{expression_in}
use Rattle.readers.proofs.Expression.{expression-law}
use Rattle.readers.specs.Tokens.{Use, plain, as'}
use Rattle.readers.specs.Forms.{use_of, value_token, attribute_layout, list_form}
use Rattle.readers.specs.Fields.{size, linked_value, field_of}
use Rattle.readers.specs.Abbreviations.{Placed, declared_in, abbreviations_of}
use Rattle.readers.specs.Header.{header_of}
use Rattle.readers.specs.declared.header.UnitHeader.{UnitHeader}
use Rattle.readers.specs.Entries.{attribute_of_reads, as_attribute, attribute_at, attributes_layout, entry_layout, step_at}
use Rattle.readers.specs.Stream.{Item, entry}
use Rattle.readers.specs.declared.cursor.Encoding.{Encoding}
use Rattle.readers.specs.declared.abbreviations.AttributeSpec.{AttributeSpec}
use Rattle.readers.specs.declared.attributes.Attribute.{Attribute}
use Rattle.readers.specs.declared.entries.Entry.{Entry}
use Rattle.readers.specs.declared.entries.Step.TheVariants.{Entry as Entry'}
use Rattle.readers.specs.EntryAttributes.{Valued, values_of, specs_from, entry_values}
use Rattle.marking.specs.Analysis.{Sections, EntryRow, analysed, analysis_of, values_of_entry}
use Rattle.marking.specs.Members.{Member, here, there, Nth}
use Rattle.marking.proofs.Members.{nothing-in, in_left, in_right}
use Rattle.rewriting.specs.Places.{NestedItem, offset_of}
use Rattle.rewriting.specs.Rewriting.{Unit as Unit', unit_of, items_in, reads_at, new_value, Room, Rewrite, rewritten, collect_of}
use Rattle.readers.proofs.FormKinds.{form-list}
use Rattle.readers.specs.Inner.Forms.{role_list, use_list}
use Rattle.laws.specs.AttributesAgain.{new_number, use_in, SameAttribute, SameAttributes, EntryAgain}
use Rattle.laws.specs.LeftOut.{survivors_in}
use Rattle.laws.specs.Thinned.{Pairwise, Becomes, thinned_of}
use Rattle.laws.specs.ByForm.{form_of, number_of, RefersInUnit, AttributeByForm, EntryByForm, ThinnedByForm}
use Rattle.rewriting.proofs.WritePass.Expressions.{is_expression}
use Rattle.rewriting.proofs.WritePass.ValueForms.{own, LinkForm, reference-form, ranges-form, locations-form, strings-form}
use Rattle.laws.proofs.Attributes.ValuesAgain.{same-reader, LinkRead, link-read, ExpressionRead, expression-read}
use Rattle.rewriting.proofs.KeptPass.FormTokens.{token-known}
use Rattle.laws.proofs.Attributes.AttributesAgain.{Direct, direct-all, Indirect, indirect-all, shallow-one, shallow-two, Divided, divided, more}
use Rattle.rewriting.proofs.KeptPass.ItemDepths.{Stands}
use Rattle.laws.proofs.Thinned.ThinnedItems.{nth-member}
use Rattle.laws.proofs.Again.Rereading.{deep-read}
use Rattle.laws.proofs.Attributes.AttributeLaws.{Headed, headed, PlacedItem, placed, kept_again}
use Rattle.laws.proofs.Thinned.ThinnedLaw.{becomes, thinned-law, of-thinned}
use Rattle.laws.proofs.Again.CollectLaws as Laws

-- ---- a number of a role, in some reads

record RoleAmong (role : Role) (v : ℕ) (rs : List Read) : Type 0 where
  pub code : Encoded
  pub read : Read
  pub among : Member read rs
  pub within : Member (patchable code role v) read.pieces

held_in : (role : Role) (v : ℕ) (rs qs : List Read) → ((r : Read) → Member r rs → Member r qs) → RoleAmong role v rs → RoleAmong role v qs
held_in role v rs qs f h = record { code = h.code; read = h.read; among = f h.read h.among; within = h.within }

module _ (e : Encoding) (unit : List ℕ) where
  abbrev big : Bool
  big = e.big_endian

  abbrev ex : ExpressionReader
  ex = expression_in e

  -- the number of an attribute whose form's token is a link of a role is held with that role
  abbrev HeldBy : List Read → Valued → Type 0
  HeldBy rs a = (role : Role) → LinkForm e a.name role (form_of a) → RoleAmong role (number_of a) rs

  abbrev AllHeld : List Read → List Valued → Type 0
  AllHeld rs values = (a : Valued) → Member a values → HeldBy rs a

  -- ---- a token that was read

  record TokenHeld (t : Token) (s : List ℕ) (v : Read) (rest : List ℕ) : Type 0 where
    pub it : Read
    pub is : token_in big as_bytes t s ≡ Some (it, rest)
    pub wide : size big it ≡ size big v
    pub held : (k : Kind) (role : Role) → t ≡ link k role → RoleAmong role (linked_value it.pieces it.seen) (v ∷ [])

  abbrev keep : Patch
  keep r v = v

  module _ (s : List ℕ) (v : Read) (rest : List ℕ) where
    other-held : (t : Token) → T (not (is_expression t)) → ((k : Kind) (role : Role) → t ≡ link k role → ⊥) → token_in big ex t s ≡ Some (v, rest) → TokenHeld t s v rest
    other-held t n o q = record { it = v; is = sym (same-reader e keep t n s) ∙ q; wide = refl; held = (λ k role z. absurd (o k role z)) }

    role-of : (k j : Kind) (a b : Role) → link k a ≡ link j b → a ≡ b
    role-of k j a b q = cc

    link-held : (k : Kind) (role : Role) → token_in big ex (link k role) s ≡ Some (v, rest) → TokenHeld (link k role) s v rest
    unfolding is_expression linked_value
    link-held k role q =
        let c : LinkRead e keep role (v, rest) = all_of (LinkRead e keep role) (link-read e keep k role s) q in
        let h : RoleAmong role (linked_value v.pieces v.seen) (v ∷ []) =
        subst (λ (r : Read). RoleAmong role (linked_value r.pieces r.seen) (r ∷ [])) (sym c.is)
        (record { code = c.code; read = record { seen = 0; start = 0; pieces = patchable c.code role c.value ∷ [] }; among = here refl; within = here refl }) in
        record {
          it = v;
          is = sym (same-reader e keep (link k role) tt s) ∙ q;
          wide = refl;
          held = (λ j other z. subst (λ (r : Role). RoleAmong r (linked_value v.pieces v.seen) (v ∷ [])) (role-of k j role other z) h);
        }

    expression-held : token_in big ex expression s ≡ Some (v, rest) → TokenHeld expression s v rest
    expression-held q =
        let c : ExpressionRead e keep s (v, rest) = all_of (ExpressionRead e keep s) (expression-read e keep s) q in
        record { it = c.it; is = c.is; wide = c.wide; held = (λ k role z. let y : ◌≡◌ {A = ℕ} 0 1 = cc in absurd (omega arith)) }

    token-held : (t : Token) → token_in big ex t s ≡ Some (v, rest) → TokenHeld t s v rest
    unfolding is_expression
    token-held nothing q = other-held nothing tt (λ k role z. let y : ◌≡◌ {A = ℕ} 0 1 = cc in absurd (omega arith)) q
    token-held (number w) q = other-held (number w) tt (λ k role z. let y : ◌≡◌ {A = ℕ} 0 1 = cc in absurd (omega arith)) q
    token-held (bounded n) q = other-held (bounded n) tt (λ k role z. let y : ◌≡◌ {A = ℕ} 0 1 = cc in absurd (omega arith)) q
    token-held forms q = other-held forms tt (λ k role z. let y : ◌≡◌ {A = ℕ} 0 1 = cc in absurd (omega arith)) q
    token-held signed q = other-held signed tt (λ k role z. let y : ◌≡◌ {A = ℕ} 0 1 = cc in absurd (omega arith)) q
    token-held (link k r) q = link-held k r q
    token-held string q = other-held string tt (λ k role z. let y : ◌≡◌ {A = ℕ} 0 1 = cc in absurd (omega arith)) q
    token-held (run n) q = other-held (run n) tt (λ k role z. let y : ◌≡◌ {A = ℕ} 0 1 = cc in absurd (omega arith)) q
    token-held (block w) q = other-held (block w) tt (λ k role z. let y : ◌≡◌ {A = ℕ} 0 1 = cc in absurd (omega arith)) q
    token-held expression q = expression-held q
    token-held unknown q = other-held unknown tt (λ k role z. let y : ◌≡◌ {A = ℕ} 0 1 = cc in absurd (omega arith)) q

  -- ---- an attribute that was read

  record AttributeHeld (name declared at width : ℕ) (one : List Read) : Type 0 where
    pub a : Attribute
    pub is : attribute_at e unit at name declared ≡ Some a
    pub ends : a.field.end ≡ at + width
    pub held : HeldBy one (record { name = name; declared = declared; value = a })

  module _ (name declared at : ℕ) (rest : List ℕ) where
    abbrev One : List Read → Type 0
    One one = AttributeHeld name declared at (length (write_all big one)) one

    direct-held : T (not (eqb declared 0x16)) → (v : Read) → token_in big ex (value_token e false name declared) (drop at unit) ≡ Some (v, rest) → One (v ∷ [])
    unfolding write_all attribute_at attribute_layout as_attribute attribute_of_reads field_of size
    direct-held n v q =
        let tok : Token = value_token e false name declared in
        let t : TokenHeld tok (drop at unit) v rest = token-held (drop at unit) v rest tok q in
        let w : length (bytes_of big v.pieces ++ []) ≡ size big v = ap length (append-nil (bytes_of big v.pieces)) in
        record {
          a = record { form = declared; field = field_of big at t.it };
          is =
              ap (λ (g : Layout). as_attribute big declared at (read_in big as_bytes g (drop at unit))) (pick_no _ _ _ n)
              ∙ ap (as_attribute big declared at) (shallow-one e keep unit unit tok (drop at unit) t.it rest t.is);
          ends = ap (λ (k : ℕ). at + k) (t.wide ∙ sym w);
          held = (λ role l. t.held l.kind role (token-known e false name declared e.big_endian (expression_in e) (drop at unit) (v, rest) q ∙ l.token));
        }

    indirect-held : T (eqb declared 0x16) → (c : Read) (mid : List ℕ) → token_in big ex forms (drop at unit) ≡ Some (c, mid)
        → (v : Read) → token_in big ex (value_token e true name c.seen) mid ≡ Some (v, rest) → One (c ∷ v ∷ [])
    unfolding write_all attribute_at attribute_layout as_attribute attribute_of_reads field_of is_expression size
    indirect-held n c mid q v k =
        let tok : Token = value_token e true name c.seen in
        let w : ℕ = size big c in
        let t : TokenHeld tok mid v rest = token-held mid v rest tok k in
        let q₀ : token_in big as_bytes forms (drop at unit) ≡ Some (c, mid) = sym (same-reader e keep forms tt (drop at unit)) ∙ q in
        let m : w + size big v ≡ length (bytes_of big c.pieces ++ (bytes_of big v.pieces ++ [])) =
        omega (arith, length-append (bytes_of big c.pieces) (bytes_of big v.pieces ++ []), length-append (bytes_of big v.pieces) []) in
        let w₁ : size big t.it ≡ size big v = t.wide in
        record {
          a = record { form = c.seen; field = field_of big (at + w) t.it };
          is =
              ap (λ (g : Layout). as_attribute big declared at (read_in big as_bytes g (drop at unit))) (pick_yes _ _ _ n)
              ∙ ap (as_attribute big declared at) (shallow-two e keep unit unit name (drop at unit) c mid t.it rest q₀ t.is);
          ends = (let z : at + w + size big t.it ≡ at + length (bytes_of big c.pieces ++ (bytes_of big v.pieces ++ [])) = omega arith in z);
          held = (λ role l. held_in role _ (v ∷ []) (c ∷ v ∷ []) (λ r m. there m)
              (t.held l.kind role (token-known e true name c.seen e.big_endian (expression_in e) mid (v, rest) k ∙ l.token)));
        }

    attribute-held : (one : List Read) → read_in big ex (attribute_layout e name declared) (drop at unit) ≡ Some (one, rest) → One one
    unfolding attribute_layout
    attribute-held one q =
        ⊎_elim
        (λ n. let i : Indirect e keep unit unit name (drop at unit) (one, rest) =
        all_of (Indirect e keep unit unit name (drop at unit)) (indirect-all e keep unit unit name (drop at unit)) (ap (λ (g : Layout). read_in big ex g (drop at unit)) (sym (pick_yes _ _ _ n)) ∙ q) in
        subst One (sym i.two) (indirect-held n i.c i.mid i.is i.v i.value))
        (λ n. let d : Direct e keep unit unit (value_token e false name declared) (drop at unit) (one, rest) =
        all_of (Direct e keep unit unit (value_token e false name declared) (drop at unit)) (direct-all e keep unit unit (value_token e false name declared) (drop at unit))
        (ap (λ (g : Layout). read_in big ex g (drop at unit)) (sym (pick_no _ _ _ n)) ∙ q) in
        subst One (sym d.one) (direct-held n d.v d.is))
        (either (eqb declared 0x16))

  -- ---- one after the other

  none-held : (rs : List Read) (at : ℕ) → AllHeld rs (values_of e unit [] at)
  unfolding values_of
  none-held rs at a m = absurd (nothing-in a m)

  joined-held : (one others : List Read) (v : Valued) (values : List Valued) → HeldBy one v → AllHeld others values → AllHeld (one ++ others) (v ∷ values)
  joined-held one others v values h t a (here q) =
      subst (HeldBy (one ++ others)) (sym q) (λ role l. held_in role _ one (one ++ others) (λ r m. in_left r one others m) (h role l))
  joined-held one others v values h t a (there m) =
      λ role l. held_in role _ others (one ++ others) (λ r n. in_right r one others n) (t a m role l)

  values-held : (specs : List AttributeSpec) (at : ℕ) (rs : List Read) (rest : List ℕ) → read_in big ex (attributes_layout e specs) (drop at unit) ≡ Some (rs, rest)
      → AllHeld rs (values_of e unit specs at)
  unfolding attributes_layout
  values-held [] at rs rest q = none-held rs at
  values-held (a ∷ specs) at rs rest q =
      let g : Layout = attribute_layout e a.name a.form in
      let d : Divided e keep unit unit g (attributes_layout e specs) (drop at unit) (rs, rest) = divided e keep unit unit g (attributes_layout e specs) (drop at unit) rs rest q in
      let w : ℕ = length (write_all big d.one) in
      let i : d.mid ≡ drop (at + w) unit =
      (all_of (ReadLaw big ex g (drop at unit)) (read-law big ex (expression-law e) g (drop at unit)) d.first).0.1 ∙ drop-drop w at unit in
      let t : AttributeHeld a.name a.form at w d.one = attribute-held a.name a.form at d.mid d.one d.first in
      let n : AllHeld d.others (values_of e unit specs (at + w)) =
      values-held specs (at + w) d.others rest (ap (read_in big ex (attributes_layout e specs)) (sym i) ∙ d.next) in
      subst (λ (r : List Read). AllHeld r (values_of e unit (a ∷ specs) at)) (sym d.both)
      (subst (AllHeld (d.one ++ d.others)) (sym (more e keep unit unit unit a specs at t.a (at + w) t.is t.ends))
      (joined-held d.one d.others (record { name = a.name; declared = a.form; value = t.a }) (values_of e unit specs (at + w)) t.held n))

  entry-held : (x : Sections) (look : ℕ → Option Declaration) (y : Entry) (rs : List Read) (rest : List ℕ) → step_at e x.abbreviations look unit y.offset.0 ≡ Some (Entry' y)
      → read_in big ex (entry_layout e x.abbreviations look) (drop y.offset.0 unit) ≡ Some (rs, rest) → AllHeld rs (values_of_entry e x unit y)
  unfolding values_of_entry entry_values
  entry-held x look y rs rest q d =
      let g : Headed e x look unit y.offset.0 y rs rest = headed e x look unit y.offset.0 y rs rest d q in
      let at : ℕ = y.offset.0 + size big g.code in
      let h : AllHeld g.others (values_of e unit g.read.specs at) = values-held g.read.specs at g.others rest g.read.reads in
      let k : AllHeld g.others (values_of e unit (specs_from x.abbreviations y.declaration.attributes.at) y.values.at) =
      subst (λ (l : List AttributeSpec). AllHeld g.others (values_of e unit l y.values.at)) (sym g.read.are)
      (subst (λ (n : ℕ). AllHeld g.others (values_of e unit g.read.specs n)) (sym g.values) h) in
      λ a m role l. held_in role _ g.others rs (λ r n. subst (Member r) (sym g.both) (there n)) (k a m role l)

-- ---- what a form is used as

reference-use : (e : Encoding) (name f : ℕ) → RefersInUnit f → use_of name f ≡ as' (own e name)
unfolding use_of
reference-use e name f h = pick_yes _ _ _ (both-and (leb 0x11 f) (leb f 0x15) (yes_leb {a = 0x11} {b = f} h.0) (yes_leb {a = f} {b = 0x15} h.1))

use-index : (u : Use) (k : ℕ) → k < 3 → use_list u ≡ k → u ≡ as' (index k)
unfolding use_list role_list
use-index plain k h q = let z : 3 ≡ k = q in absurd (omega arith)
use-index (as' reference) k h q = let z : 3 ≡ k = q in absurd (omega arith)
use-index (as' type_reference) k h q = let z : 3 ≡ k = q in absurd (omega arith)
use-index (as' sibling) k h q = let z : 3 ≡ k = q in absurd (omega arith)
use-index (as' (index j)) k h q = ap (λ (n : ℕ). as' (index n)) q
use-index (as' absolute) k h q = let z : 3 ≡ k = q in absurd (omega arith)

index-form : (e : Encoding) (name f k : ℕ) → k < 3 → list_form f ≡ k → LinkForm e name (index k) f
index-form e name f zero h q = ranges-form e name f q
index-form e name f (suc zero) h q = locations-form e name f q
index-form e name f (suc (suc zero)) h q = strings-form e name f q
index-form e name f (suc (suc (suc k))) h q = absurd (omega arith)

abbrev rest_of : Bool → Bool → Bool → Use
rest_of a b c = pick a (as' (index 0)) (pick b (as' (index 1)) (pick c (as' (index 2)) plain))

rest_plain : (a b c : Bool) → use_list (rest_of a b c) ≡ 3 → rest_of a b c ≡ plain
unfolding use_list role_list pick
rest_plain true b c q = let z : ◌≡◌ {A = ℕ} 0 3 = q in absurd (omega arith)
rest_plain false true c q = let z : ◌≡◌ {A = ℕ} 1 3 = q in absurd (omega arith)
rest_plain false false true q = let z : ◌≡◌ {A = ℕ} 2 3 = q in absurd (omega arith)
rest_plain false false false q = refl

module _ (name f : ℕ) (o : RefersInUnit f → ⊥) where
  not-both : T (not (leb 0x11 f and leb f 0x15))
  not-both =
      ⊎_elim (λ t. let p = and_both (leb 0x11 f) (leb f 0x15) t in absurd (o (leb_yes {a = 0x11} {b = f} p.0, leb_yes {a = f} {b = 0x15} p.1)))
      (λ t. t) (either (leb 0x11 f and leb f 0x15))

  absolute-use : f ≡ 0x10 → use_of name f ≡ as' absolute
  unfolding use_of
  absolute-use h = pick_no _ _ _ not-both ∙ pick_yes _ _ _ (yes_eqb {a = f} {b = 0x10} h)

  plain-use : list_form f ≡ 3 → (f ≡ 0x10 → ⊥) → use_of name f ≡ plain
  unfolding use_of
  plain-use q h =
      let b : use_of name f ≡ rest_of (eqb f 0x23) (eqb f 0x22) (eqb f 0x1a or (leb 0x25 f and leb f 0x28) or eqb f 0x1f02) =
      pick_no _ _ _ not-both ∙ pick_no _ _ _ (no_eqb {a = f} {b = 0x10} h) in
      b ∙ rest_plain (eqb f 0x23) (eqb f 0x22) (eqb f 0x1a or (leb 0x25 f and leb f 0x28) or eqb f 0x1f02) (sym (ap use_list b) ∙ sym (form-list name f) ∙ q)

-- ---- a rewritten unit

module _ (x : Sections) (room : Room) (type_units : Bool) (section : List ℕ) (w : Rewrite) (answer : collect_of x room type_units section ≡ rewritten w) where
  abbrev u : Unit'
  u = Laws.unit x room type_units section w answer

  abbrev ks : List NestedItem
  ks = Laws.kept x room type_units section w answer

  abbrev new : Unit'
  new = thinned_of (Laws.it x room type_units section w answer).header w.output (Laws.it x room type_units section w answer).declared

  abbrev en : Encoding
  en = u.header.encoding

  module _ (s : NestedItem) (i : Member s ks) where
    abbrev f : Patch
    f = new_value w.lists w.map s.depth

    abbrev rs : List Read
    rs = reads_at x u (offset_of s.item)

    abbrev Rule : Role → ℕ → ℕ → Type 0
    Rule = Becomes x u new w.lists w.map ks s.depth

    module _ (old at : ℕ) (a b : Valued) (h : SameAttribute f en old at u.bytes w.output a b) (held : HeldBy en u.bytes rs a) where
      rule : (role : Role) → LinkForm en a.name role (form_of a) → use_in a ≡ as' role → Rule role (number_of a) (number_of b)
      unfolding new_number
      rule role l q =
          let g : RoleAmong role (number_of a) rs = held role l in
          subst (Rule role (number_of a)) (sym (h.number ∙ ap (λ (z : Use). new_number f z (number_of a)) q))
          (becomes x room type_units section w answer s i g.read g.among g.code role (number_of a) g.within)

      own-rule : RefersInUnit (form_of a) → Rule (own en a.name) (number_of a) (number_of b)
      own-rule r = rule (own en a.name) (reference-form en a.name (form_of a) r.0 r.1) (reference-use en a.name (form_of a) r)

      index-rule : (k : ℕ) → k < 3 → list_form (form_of a) ≡ k → Rule (index k) (number_of a) (number_of b)
      index-rule k l q =
          rule (index k) (index-form en a.name (form_of a) k l q) (use-index (use_in a) k l (sym (form-list a.name (form_of a)) ∙ q))

      number-stays : (RefersInUnit (form_of a) → ⊥) → list_form (form_of a) ≡ 3 → number_of b ≡ number_of a
      unfolding new_number new_value
      number-stays o q =
          h.number
          ∙ ⊎_elim (λ t. ap (λ (z : Use). new_number f z (number_of a)) (absolute-use a.name (form_of a) o (eqb_yes {a = form_of a} {b = 0x10} t)))
          (λ t. ap (λ (z : Use). new_number f z (number_of a)) (plain-use a.name (form_of a) o q (eqb_no {a = form_of a} {b = 0x10} t)))
          (either (eqb (form_of a) 0x10))

      by_form_lem : AttributeByForm x u new w.lists w.map ks s.depth a b
      unfolding Becomes
      by_form_lem =
          record {
            name = h.name;
            form = h.form;
            refers = (λ n r. subst (λ (z : Role). Rule z (number_of a) (number_of b)) (pick_no _ _ _ (no_eqb {a = a.name} {b = 0x01} n)) (own-rule r));
            sibling = (λ n r. subst (λ (z : Role). Rule z (number_of a) (number_of b)) (pick_yes _ _ _ (yes_eqb {a = a.name} {b = 0x01} n)) (own-rule r));
            unlisted = (λ k l q. (index-rule k l q).0);
            listed = (λ k l q. (index-rule k l q).1);
            stays = number-stays;
            bytes = (λ o q n m. h.bytes (plain-use a.name (form_of a) o q n) m);
          }

    by-forms : (old at : ℕ) (olds news : List Valued) → AllHeld en u.bytes rs olds → SameAttributes f en old at u.bytes w.output olds news
        → Pairwise (AttributeByForm x u new w.lists w.map ks s.depth) olds news
    unfolding SameAttributes Pairwise
    by-forms old at [] [] t h = tt
    by-forms old at [] (b ∷ news) t h = h
    by-forms old at (a ∷ olds) [] t h = h
    by-forms old at (a ∷ olds) (b ∷ news) t h = (by_form_lem old at a b h.0 (t a (here refl)), by-forms old at olds news (λ c m. t c (there m)) h.1)

  entry-numbers : (m : ℕ) (s : NestedItem) (y : Entry) → s.item ≡ entry y → PlacedItem x u w.lists w.map w.output (Laws.start x room type_units section w answer) ks m s
      → AllHeld en u.bytes (reads_at x u (offset_of s.item)) (values_of_entry en x u.bytes y)
  unfolding offset_of Stands
  entry-numbers m s y q p =
      entry-held en u.bytes x (declared_in u.declared) y (reads_at x u (offset_of s.item)) p.could.deep.run.1
      (subst (Stands en x.abbreviations (declared_in u.declared) u.bytes) q p.could.stands)
      (ap (λ (i : Item). read_in en.big_endian (expression_in en) (entry_layout en x.abbreviations (declared_in u.declared)) (drop (offset_of i) u.bytes)) (sym q)
      ∙ deep-read x u w.lists w.map s p.could)

  kept-forms : (m : ℕ) (s : NestedItem) (y : Entry) → Nth s m ks → s.item ≡ entry y → EntryByForm x u new w.lists w.map ks m s y
  unfolding items_in
  kept-forms m s y i q =
      let g : EntryAgain w.lists w.map en x u.bytes w.output (items_in x (Laws.again x room type_units section w answer)) m s y =
      kept_again x room type_units section w answer m s y i q in
      record {
        at = g.new;
        place = g.place;
        item = g.item;
        each = g.attributes.each;
        attributes = by-forms s (nth-member s m ks i) y.offset.0 g.new _ _ (entry-numbers m s y q (placed x room type_units section w answer m s i)) g.attributes.same;
      }

  -- THE NUMBERS OF ATTRIBUTES, BY FORM: of the m-th kept item, an entry
  pub form-law : (h : UnitHeader) (ds : List Placed) (rows : List EntryRow) → header_of x.setting.big_endian section ≡ Ok (Some h)
      → abbreviations_of x.abbreviations h.abbreviations ≡ Some ds → analysis_of x section room.tables ≡ analysed rows
      → (m : ℕ) (s : NestedItem) (y : Entry) → Nth s m (survivors_in x (unit_of h section ds) rows) → s.item ≡ entry y
      → EntryByForm x (unit_of h section ds) (thinned_of h w.output ds) w.lists w.map (survivors_in x (unit_of h section ds) rows) m s y
  form-law =
      Laws.of-read x room type_units section w answer
      (λ (h : UnitHeader) (ds : List Placed) (rows : List EntryRow). (m : ℕ) (s : NestedItem) (y : Entry)
      → Nth s m (survivors_in x (unit_of h section ds) rows) → s.item ≡ entry y
      → EntryByForm x (unit_of h section ds) (thinned_of h w.output ds) w.lists w.map (survivors_in x (unit_of h section ds) rows) m s y) kept-forms

  -- the same in the terms of the unit that is thinned
  pub thinned-form-law : ThinnedByForm x type_units section w
  thinned-form-law =
      record {
        thinned = thinned-law x room type_units section w answer;
        entries = of-thinned x room type_units section w answer
            (λ (h : UnitHeader) (ds : List Placed) (ks : List NestedItem). (m : ℕ) (s : NestedItem) (y : Entry) → Nth s m ks → s.item ≡ entry y
            → EntryByForm x (unit_of h section ds) (thinned_of h w.output ds) w.lists w.map ks m s y) kept-forms;
      }
