-- The references that `next_reference` yields, one after another.
use Rattle.std.specs.Prelude.{◌≡◌, ℕ, List, [], ◌∷◌, None, Some}
use Rattle.readers.specs.declared.cursor.Encoding.{Encoding}
use Rattle.readers.specs.declared.expressions.Reference.{Reference}
use Rattle.readers.specs.References.{Named, encoded_by, next_reference}

-- Reference after reference from a place on, each from where the one before it ends, until there is none. From the
-- start of an expression that can be read these are its references (`walked-yields`, proofs/references/Yields.antt). From any
-- other place they are what the bytes there say, read as operations: nothing tells where a nested part ends.
pub data Yields (e : Encoding) (s : List ℕ) : ℕ → List Named → Type 0 where
  no_more : {at : ℕ} → next_reference e s at ≡ None → Yields e s at []
  one_more : {at : ℕ} {rs : List Named} (r : Reference) → next_reference e s at ≡ Some r → Yields e s r.next.at rs
      → Yields e s at ((r.place, r.target.0, encoded_by r.leb r.width) ∷ rs)
