-- The index list of a use.
use Rattle.std.specs.Prelude.{ℕ}
use Rattle.readers.specs.Layout.{Role, reference, type_reference, sibling, index, absolute}
use Rattle.readers.specs.Tokens.{Use, plain, as'}

unfoldable pub role_list : Role → ℕ
role_list reference = 3
role_list type_reference = 3
role_list sibling = 3
role_list (index k) = k
role_list absolute = 3

unfoldable pub use_list : Use → ℕ
use_list plain = 3
use_list (as' r) = role_list r
