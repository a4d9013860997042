-- A keep list (document 02, Point 10): "a list of tags (0 to 65,535) in ascending order, each with a treatment: 1
-- always a root, 2 never a root .. Tags not listed are judged as before".
use Rattle.std.specs.Prelude.{ℕ, suc, ◌+◌, ◌*◌, Bool, true, List, [], ◌∷◌, length, leb, eqb, Err, Ok, Result}
use Rattle.readers.specs.Choice.{pick, ◌and◌, ◌or◌}
use Rattle.marking.specs.declared.addresses.Verdict.{Verdict}
use Rattle.marking.specs.declared.addresses.Verdict.TheVariants.{Live, Dead}

pub record KeepList : Type 0 where
  pub tags : List ℕ
  pub treatments : List ℕ

-- "two big-endian bytes a tag"; a byte short of a whole tag counts for nothing
unfoldable pub tags_in : List ℕ → List ℕ
tags_in [] = []
tags_in (a ∷ []) = []
tags_in (a ∷ b ∷ rest) = (256 * a + b) ∷ tags_in rest

-- the list that is lent: the bytes of its tags, and a byte a treatment
abbrev pub keep_in : List ℕ → List ℕ → KeepList
keep_in tags treatments = record { tags = tags_in tags; treatments = treatments }

-- ---- which lists are taken

abbrev pub always_root : ℕ
always_root = 1

abbrev pub never_root : ℕ
never_root = 2

unfoldable pub is_treatment : ℕ → Bool
is_treatment k = eqb k always_root or eqb k never_root

unfoldable pub each_treats : List ℕ → Bool
each_treats [] = true
each_treats (k ∷ ks) = is_treatment k and each_treats ks

-- each tag above the one before it, the first at least `low`
unfoldable pub ascends : ℕ → List ℕ → Bool
ascends low [] = true
ascends low (t ∷ ts) = leb low t and ascends (suc t) ts

-- "19, a treatment other than 1 or 2, or not one for each tag; 20, a tag not above the one before it; .. 19 first over the
-- whole list"; 0 where nothing is refused
unfoldable pub keep_refusal : KeepList → ℕ
keep_refusal keep =
    pick (eqb (length keep.treatments) (length keep.tags) and each_treats keep.treatments)
    (pick (ascends 0 keep.tags) 0 20)
    19

-- what judging a list answers, by its refusal's number or 0
unfoldable pub list_answer : ℕ → Result (Unit {0}) ℕ
list_answer n = pick (eqb n 0) (Ok tt) (Err n)

-- ---- what a list does

-- the treatment of a tag, 0 where it is not listed
unfoldable pub treatment_in : List ℕ → List ℕ → ℕ → ℕ
treatment_in [] ks tag = 0
treatment_in (t ∷ ts) [] tag = 0
treatment_in (t ∷ ts) (k ∷ ks) tag = pick (eqb t tag) k (treatment_in ts ks tag)

abbrev pub treatment_of : KeepList → ℕ → ℕ
treatment_of keep tag = treatment_in keep.tags keep.treatments tag

-- "Every entry still goes through the root test, so malformed ones are refused under every treatment"
unfoldable pub treated : ℕ → Result Verdict ℕ → Result Verdict ℕ
treated k (Ok Live) = pick (eqb k never_root) (Ok Dead) (Ok Live)
treated k (Ok Dead) = pick (eqb k always_root) (Ok Live) (Ok Dead)
treated k (Err n) = Err n
