-- What a keep list does to the verdict of an entry's root test (document 02, Point 10). Assumes nothing.
use mathlib.Core.Path.{◌≡◌, refl, ap, sym, ◌∙◌}
use Prim.Native.Nat.{ℕ, suc, ◌<◌}
use native.Mathlib.Omega.{arith}
use mathlib.Core.List.{List, [], ◌∷◌}
use lib.ListN.{length, get_or}
use lib.Dec.{eqb}
use mir.Facts.{eqb_yes}
use Rattle.readers.specs.Choice.{pick, ◌and◌}
use Rattle.readers.specs.Header.{header_of}
use Rattle.readers.specs.declared.cursor.Encoding.{Encoding}
use Rattle.readers.specs.declared.entries.Entry.{Entry}
use Rattle.readers.proofs.Choice.{pick-either}
use Rattle.std.specs.Prelude.{Err, Ok, Result}
use Rattle.marking.specs.declared.addresses.Verdict.{Verdict}
use Rattle.marking.specs.declared.addresses.Verdict.TheVariants.{Live, Dead}
use Rattle.marking.specs.KeepList.{KeepList, always_root, never_root, each_treats, ascends, keep_refusal, treatment_in, treatment_of, treated}
use Rattle.marking.specs.Analysis.{Sections, tag_of, values_of_entry, test_of, root_of, after_list, header_by}
use Rattle.marking.proofs.KeepLists.{ascends-ascending, taken, treatment-at, treatment-none, still-refused, untreated}
use Rattle.laws.specs.KeepLists.{with_keep, no_list, Treats, Decided, TreatedBy}

-- ---- the treatment of a tag

module _ (keep : KeepList) where
  -- a list that is taken gives each of its tags the treatment beside it
  pub treats-law : keep_refusal keep ≡ 0 → (tag k : ℕ) → Treats keep tag k → treatment_of keep tag ≡ k
  treats-law ok tag k t =
      let w = taken keep ok in
      let a = ascends-ascending 0 keep.tags w.ascending in
      let l : t.at < length keep.treatments = omega (arith, w.counted, t.inside) in
      sym (treatment-at 0 keep.tags keep.treatments tag a w.counted t.at l t.tag_is) ∙ t.treatment_is

  -- a tag that is not listed has none, in every list
  pub untreated-tag : (tag : ℕ) → ((k : ℕ) → Treats keep tag k → ⊥) → treatment_of keep tag ≡ 0
  untreated-tag tag n =
      sym (treatment-none keep.tags keep.treatments tag (λ i h q.
      n (get_or keep.treatments i 0) (record { at = i; inside = h; tag_is = q; treatment_is = refl })))

-- what a tag is treated with stands beside it
found_at : (ts ks : List ℕ) (tag k : ℕ) → treatment_in ts ks tag ≡ suc k → Treats (record { tags = ts; treatments = ks }) tag (suc k)
unfolding treatment_in
found_at [] ks tag k q = absurd (omega arith)
found_at (t ∷ ts) [] tag k q = absurd (omega arith)
found_at (t ∷ ts) (m ∷ ks) tag k same =
    pick-either (λ (n : ℕ). n ≡ suc k → Treats (record { tags = t ∷ ts; treatments = m ∷ ks }) tag (suc k)) (eqb t tag) m (treatment_in ts ks tag)
    (λ e q. record { at = 0; inside = omega arith; tag_is = eqb_yes {a = t} {b = tag} e; treatment_is = q })
    (λ _ q.
    let w = found_at ts ks tag k q in
    record { at = suc w.at; inside = omega (arith, w.inside); tag_is = w.tag_is; treatment_is = w.treatment_is }) same

pub treatment-listed : (keep : KeepList) (tag k : ℕ) → treatment_of keep tag ≡ suc k → Treats keep tag (suc k)
treatment-listed keep tag k q = found_at keep.tags keep.treatments tag k q

-- ---- what a treatment does to a verdict

always-root : (v : Result Verdict ℕ) → Decided v → treated always_root v ≡ Ok Live
unfolding treated pick
always-root (Ok Live) d = refl
always-root (Ok Dead) d = refl
always-root (Err n) d = absurd (d n refl)

never-root : (v : Result Verdict ℕ) → Decided v → treated never_root v ≡ Ok Dead
unfolding treated pick
never-root (Ok Live) d = refl
never-root (Ok Dead) d = refl
never-root (Err n) d = absurd (d n refl)

pub live-decided : Decided (Ok Live)
live-decided n q = let z : ◌≡◌ {A = ℕ} 0 1 = cc in omega arith

pub dead-decided : Decided (Ok Dead)
dead-decided n q = let z : ◌≡◌ {A = ℕ} 0 1 = cc in omega arith

pub was-refused : (k : ℕ) (v : Result Verdict ℕ) (n : ℕ) → treated k v ≡ Err n → v ≡ Err n
unfolding treated
was-refused k (Ok Live) n q = absurd (pick-either Decided (eqb k never_root) (Ok Dead) (Ok Live) (λ _. dead-decided) (λ _. live-decided) n q)
was-refused k (Ok Dead) n q = absurd (pick-either Decided (eqb k always_root) (Ok Live) (Ok Dead) (λ _. live-decided) (λ _. dead-decided) n q)
was-refused k (Err m) n q = q

-- ---- an entry

module _ (e : Encoding) (x : Sections) (unit : List ℕ) (base : ℕ) (y : Entry) where
  abbrev test : Result Verdict ℕ
  test = test_of e x unit base y

  abbrev treatment : ℕ
  treatment = treatment_of x.keep (tag_of y)

  by-treatment : (k : ℕ) → treatment ≡ k → root_of e x unit base y ≡ treated k test
  unfolding root_of
  by-treatment k q = ap (λ n. treated n test) q

  -- THE treatment of an entry, by a list that is taken
  pub treatment-law : keep_refusal x.keep ≡ 0 → TreatedBy x.keep (tag_of y) (test_of e x unit base y) (root_of e x unit base y)
  treatment-law ok =
      record {
        always = λ t d. by-treatment always_root (treats-law x.keep ok (tag_of y) always_root t) ∙ always-root test d;
        never = λ t d. by-treatment never_root (treats-law x.keep ok (tag_of y) never_root t) ∙ never-root test d;
        unlisted = λ n. by-treatment 0 (untreated-tag x.keep (tag_of y) n) ∙ untreated test;
        refused = λ n q. by-treatment treatment refl ∙ sym (still-refused treatment test n q);
        no_other = λ n q. was-refused treatment test n (sym (by-treatment treatment refl) ∙ q);
      }

  -- the empty list changes no verdict, and no header
  pub empty-list-root : root_of e (with_keep x no_list) unit base y ≡ test_of e x unit base y
  unfolding root_of test_of values_of_entry treatment_in
  empty-list-root = untreated _

pub empty-list-header : (x : Sections) (section : List ℕ) → header_by (with_keep x no_list) section ≡ header_of x.setting.big_endian section
unfolding header_by after_list keep_refusal each_treats ascends pick ◌and◌
empty-list-header x section = refl
