-- Expressions (DWARF 5, 2.5): operations up to the end of the bytes; an entry value (2.5.1.7) holds an expression.
use Rattle.std.specs.Prelude.{ℕ, zero, suc, Bool, List, [], ◌∷◌, ◌++◌, length, None, Option, Some}
use Rattle.readers.specs.Choice.{bind}
use Rattle.readers.specs.Layout.{Piece, Read, RunOf, ExpressionReader}
use Rattle.readers.specs.Layout.{read_in}
use Rattle.readers.specs.Operations.{operation}
use Rattle.readers.specs.declared.cursor.Encoding.{Encoding}

-- ---- the pieces of what was read

unfoldable pub all_pieces : List Read → List Piece
all_pieces [] = []
all_pieces (r ∷ rs) = r.pieces ++ all_pieces rs

unfoldable pub and_rest : ExpressionReader → RunOf → Option (List Piece)
and_rest ex r = bind (ex r.1) (λ qs. Some (all_pieces r.0 ++ qs))

module _ (e : Encoding) where
  abbrev pub big : Bool
  big = e.big_endian

  -- at most f operations long, and as deep
  unfoldable pub expression_within : ℕ → ExpressionReader
  expression_within zero [] = Some []
  expression_within zero (b ∷ s) = None
  expression_within (suc f) [] = Some []
  expression_within (suc f) (b ∷ s) = bind (read_in big (expression_within f) (operation e) (b ∷ s)) (and_rest (expression_within f))

  -- THE reader of expressions
  unfoldable pub expression_in : ExpressionReader
  expression_in s = expression_within (length s) s
