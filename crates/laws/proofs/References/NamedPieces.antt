-- The references among pieces, as a list: those that a scan of the expression finds, and those that have the role. Assumes nothing.
use mathlib.Core.Path.{◌≡◌, refl, ap, ap₂, sym, ◌∙◌, subst}
use Prim.Native.Nat.{ℕ, ◌+◌}
use native.Mathlib.Omega.{arith}
use mathlib.Core.Bool.{Bool, true, false}
use mathlib.Core.List.{List, [], ◌∷◌, ◌++◌, append_assoc}
use mathlib.Core.Logic.{⊎_elim, ◌↔◌}
use Rattle.std.specs.Prelude.{None, Option, Some}
use lib.ListN.{length}
use lib.Dec.{eqb}
use mir.Facts.{eqb_no, no_eqb}
use Rattle.readers.specs.Choice.{pick}
use Rattle.readers.proofs.Choice.{pick_no, pick-either}
use Rattle.readers.specs.Layout.{Encoded, Role, reference, type_reference, sibling, index, absolute, Piece, verbatim, patchable, piece_bytes, Read}
use Rattle.readers.specs.Expression.{expression_in}
use Rattle.readers.specs.References.{Named, name_in, names_in, names_or, references_in, walk_of, flat_from}
use Rattle.readers.proofs.Answers.{walked-flat}
use Rattle.readers.specs.declared.cursor.Encoding.{Encoding}
use Rattle.marking.specs.EntryReferences.{found, targets, walk_found, expression_found}
use Rattle.marking.specs.Members.{Member, here, there}
use Rattle.laws.specs.SameReferences.{Names, NamedIn, RoleReference}
use Rattle.marking.proofs.Members.{nothing-in, in_left, in_right, in_either}

-- ---- the references, as a list

unfoldable pub role_names : Role → ℕ → List ℕ
role_names reference v = v ∷ []
role_names type_reference v = pick (eqb v 0) [] (v ∷ [])
role_names sibling v = []
role_names (index k) v = []
role_names absolute v = []

unfoldable pub piece_names : Piece → List ℕ
piece_names (verbatim l) = []
piece_names (patchable e r v) = role_names r v

unfoldable pub pieces_names : List Piece → List ℕ
pieces_names [] = []
pieces_names (p ∷ ps) = piece_names p ++ pieces_names ps

unfoldable pub reads_names : List Read → List ℕ
reads_names [] = []
reads_names (r ∷ rs) = pieces_names r.pieces ++ reads_names rs

unfoldable pub names_of : Option (List Piece) → List ℕ
names_of None = []
names_of (Some ps) = pieces_names ps

pub reads-append : (rs qs : List Read) → reads_names (rs ++ qs) ≡ reads_names rs ++ reads_names qs
unfolding reads_names
reads-append [] qs = refl
reads-append (r ∷ rs) qs =
    ap (λ (l : List ℕ). pieces_names r.pieces ++ l) (reads-append rs qs) ∙ sym (append_assoc (pieces_names r.pieces) (reads_names rs) (reads_names qs))

-- ---- those that a scan of an expression finds

targets-append : (rs qs : List Named) → targets (rs ++ qs) ≡ targets rs ++ targets qs
unfolding targets
targets-append [] qs = refl
targets-append (r ∷ rs) qs = ap (λ (l : List ℕ). r.1 ∷ l) (targets-append rs qs)

target-unless : (b : Bool) (n : Named) → targets (pick b [] (n ∷ [])) ≡ pick b [] (n.1 ∷ [])
unfolding targets pick
target-unless true n = refl
target-unless false n = refl

piece-targets : (at : ℕ) (p : Piece) → targets (name_in at p) ≡ piece_names p
unfolding targets name_in piece_names role_names
piece-targets at (verbatim l) = refl
piece-targets at (patchable e reference v) = refl
piece-targets at (patchable e type_reference v) = target-unless (eqb v 0) (at, v, e)
piece-targets at (patchable e sibling v) = refl
piece-targets at (patchable e (index k) v) = refl
piece-targets at (patchable e absolute v) = refl

pieces-targets : (big : Bool) (at : ℕ) (ps : List Piece) → targets (names_in big at ps) ≡ pieces_names ps
unfolding targets names_in pieces_names
pieces-targets big at [] = refl
pieces-targets big at (p ∷ ps) =
    targets-append (name_in at p) (names_in big (at + length (piece_bytes big p)) ps) ∙ ap₂ ◌++◌ (piece-targets at p) (pieces-targets big (at + length (piece_bytes big p)) ps)

or-targets : (big : Bool) (o : Option (List Piece)) → targets (names_or big o) ≡ names_of o
unfolding targets names_or names_of
or-targets big None = refl
or-targets big (Some ps) = pieces-targets big 0 ps

module _ (e : Encoding) (s : List ℕ) where
  walk-found : (ys : List ℕ) (w : Option (ℕ × Bool)) → walk_of e s ≡ w → walk_found (targets (references_in e s)) w ≡ found ys
      → (ys ≡ targets (references_in e s)) × (flat_from e s 0 ≡ references_in e s)
  unfolding walk_found
  walk-found ys None w q = let z : ◌≡◌ {A = ℕ} 0 1 = cc in absurd (omega arith)
  walk-found ys (Some (n, true)) w q = let z : ◌≡◌ {A = ℕ} 0 1 = cc in absurd (omega arith)
  walk-found ys (Some (n, false)) w q = (cc, (walked-flat e s n false w).0)

  -- what an expression's scan finds is what its pieces hold
  pub expression-names : (ys : List ℕ) → expression_found e s ≡ found ys → ys ≡ names_of (expression_in e s)
  unfolding expression_found references_in
  expression-names ys q = (walk-found ys (walk_of e s) refl q).0 ∙ or-targets e.big_endian (expression_in e s)

  -- and what its operations name one after the other
  pub expression-operations : (ys : List ℕ) → expression_found e s ≡ found ys → targets (flat_from e s 0) ≡ names_of (expression_in e s)
  unfolding expression_found references_in
  expression-operations ys q = ap targets (walk-found ys (walk_of e s) refl q).1 ∙ or-targets e.big_endian (expression_in e s)

-- ---- those that have the role

module _ (v : ℕ) where
  pub only : (w : ℕ) → Member v (w ∷ []) → v ≡ w
  only w (here q) = q
  only w (there m) = absurd (nothing-in v m)

  role-out : (r : Role) (w : ℕ) → Member v (role_names r w) → (v ≡ w) × Names r v
  unfolding role_names Names
  role-out reference w m = (only w m, tt)
  role-out type_reference w m =
      pick-either (λ (l : List ℕ). Member v l → (v ≡ w) × (v ≡ 0 → ⊥)) (eqb w 0) [] (w ∷ [])
      (λ t n. absurd (nothing-in v n)) (λ t n. (only w n, λ z. eqb_no {a = w} {b = 0} t (sym (only w n) ∙ z))) m
  role-out sibling w m = absurd (nothing-in v m)
  role-out (index k) w m = absurd (nothing-in v m)
  role-out absolute w m = absurd (nothing-in v m)

  role-in : (r : Role) → Names r v → Member v (role_names r v)
  unfolding role_names Names
  role-in reference n = here refl
  role-in type_reference n = subst (Member v) (sym (pick_no _ _ _ (no_eqb {a = v} {b = 0} n))) (here refl)
  role-in sibling n = absurd n
  role-in (index k) n = absurd n
  role-in absolute n = absurd n

  piece-out : (p : Piece) (ps : List Piece) → Member v (piece_names p) → NamedIn (p ∷ ps) v
  unfolding piece_names
  piece-out (verbatim l) ps m = absurd (nothing-in v m)
  piece-out (patchable e r w) ps m = let q = role-out r w m in record { encoded = e; role = r; names = q.1; within = here (ap (patchable e r) q.0) }

  pieces-out : (ps : List Piece) → Member v (pieces_names ps) → NamedIn ps v
  unfolding pieces_names
  pieces-out [] m = absurd (nothing-in v m)
  pieces-out (p ∷ ps) m =
      ⊎_elim
      (λ n. piece-out p ps n)
      (λ n. let q : NamedIn ps v = pieces-out ps n in record { encoded = q.encoded; role = q.role; names = q.names; within = there q.within })
      (in_either v (piece_names p) (pieces_names ps) m)

  piece-in : (e : Encoded) (r : Role) → Names r v → Member v (piece_names (patchable e r v))
  unfolding piece_names
  piece-in e r n = role-in r n

  pieces-in : (ps : List Piece) (e : Encoded) (r : Role) → Names r v → Member (patchable e r v) ps → Member v (pieces_names ps)
  unfolding pieces_names
  pieces-in [] e r n m = absurd (nothing-in (patchable e r v) m)
  pieces-in (p ∷ ps) e r n (here q) = in_left v (piece_names p) (pieces_names ps) (subst (λ (z : Piece). Member v (piece_names z)) q (piece-in e r n))
  pieces-in (p ∷ ps) e r n (there m) = in_right v (piece_names p) (pieces_names ps) (pieces-in ps e r n m)

  pub pieces-members : (ps : List Piece) → Member v (pieces_names ps) ↔ NamedIn ps v
  pieces-members ps = (pieces-out ps, λ q. pieces-in ps q.encoded q.role q.names q.within)

  reads-out : (rs : List Read) → Member v (reads_names rs) → RoleReference rs v
  unfolding reads_names
  reads-out [] m = absurd (nothing-in v m)
  reads-out (r ∷ rs) m =
      ⊎_elim
      (λ n. record { read = r; among = here refl; held = pieces-out r.pieces n })
      (λ n. let q : RoleReference rs v = reads-out rs n in record { read = q.read; among = there q.among; held = q.held })
      (in_either v (pieces_names r.pieces) (reads_names rs) m)

  reads_in_lem : (rs : List Read) (r : Read) → Member r rs → Member v (pieces_names r.pieces) → Member v (reads_names rs)
  unfolding reads_names
  reads_in_lem [] r m n = absurd (nothing-in r m)
  reads_in_lem (q ∷ rs) r (here e) n = in_left v (pieces_names q.pieces) (reads_names rs) (subst (λ (z : Read). Member v (pieces_names z.pieces)) e n)
  reads_in_lem (q ∷ rs) r (there m) n = in_right v (pieces_names q.pieces) (reads_names rs) (reads_in_lem rs r m n)

  pub reads-members : (rs : List Read) → Member v (reads_names rs) ↔ RoleReference rs v
  reads-members rs = (reads-out rs, λ q. reads_in_lem rs q.read q.among ((pieces-members q.read.pieces).1 q.held))
