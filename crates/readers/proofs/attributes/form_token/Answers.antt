-- `form_token` meets its contract: its table lists the rule, and beyond it only 0x1f01 and 0x1f02 are known. Assumes nothing.
use Rattle.readers.specs.Choice.{pick}
use Rattle.readers.specs.Forms.{form_token, form_tokens, token_among}
use Rattle.readers.proofs.Constants.{listed, listed_from}
use Rattle.readers.proofs.Values.{token-low, token-gnu, token-address, token-none}
use Rattle.readers.proofs.attributes.form_token.Goals as goal
use Rattle.readers.proofs.attributes.form_token.Goals.{then-form-eq-DW_FORM_GNU_str_index-via-then-form-eq-DW_FORM_GNU_str_index, then-form-eq-DW_FORM_GNU_str_index-via-else-form-eq-DW_FORM_GNU_str_index+then-form-eq-DW_FORM_GNU_addr_index}

pub returns-then-i-lt45 : goal.returns-then-i-lt45
unfolding listed listed_from form_token form_tokens token_among pick
returns-then-i-lt45 c = token-low _ c.if-i-lt45.true

pub returns-then-form-eq-DW_FORM_GNU_str_index : goal.returns-then-form-eq-DW_FORM_GNU_str_index
returns-then-form-eq-DW_FORM_GNU_str_index c =
    elim c.then-form-eq-DW_FORM_GNU_str_index.branch [
      | then-form-eq-DW_FORM_GNU_str_index-via-then-form-eq-DW_FORM_GNU_str_index w ↦ search token-gnu
      | then-form-eq-DW_FORM_GNU_str_index-via-else-form-eq-DW_FORM_GNU_str_index+then-form-eq-DW_FORM_GNU_addr_index w ↦ search token-address
    ]

pub returns : goal.returns
returns c = search token-none
