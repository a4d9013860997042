-- `scan_location`: by the kind of the entry. Assumes nothing.
use Rattle.marking.proofs.Founds.{location-base, location-address, location-default, location-other}
use Rattle.marking.proofs.references.scan_location.Goals as goal
use Rattle.marking.proofs.references.scan_location.Goals.{then-x-eq-DW_LLE_base_addressx-via-then-x-eq-DW_LLE_base_addressx, then-x-eq-DW_LLE_base_addressx-via-else-x-eq-DW_LLE_base_addressx+then-x-eq-DW_LLE_base_address}

pub returns-then-x-eq-DW_LLE_base_addressx : goal.returns-then-x-eq-DW_LLE_base_addressx
returns-then-x-eq-DW_LLE_base_addressx c =
    elim c.then-x-eq-DW_LLE_base_addressx.branch [
      | then-x-eq-DW_LLE_base_addressx-via-then-x-eq-DW_LLE_base_addressx w ↦ location-base _ _ _ _ _ w.if-x-eq-DW_LLE_base_addressx.true
      | then-x-eq-DW_LLE_base_addressx-via-else-x-eq-DW_LLE_base_addressx+then-x-eq-DW_LLE_base_address w ↦ location-address _ _ _ _ _ w.if-x-eq-DW_LLE_base_addressx.false w.if-x-eq-DW_LLE_base_address.true
    ]

pub returns-then-x-eq-DW_LLE_default_location : goal.returns-then-x-eq-DW_LLE_default_location
returns-then-x-eq-DW_LLE_default_location c = location-default _ _ _ _ _ c.if-x-eq-DW_LLE_base_addressx.false c.if-x-eq-DW_LLE_base_address.false _ _ _ c.scan_expression.ensures c.if-x-eq-DW_LLE_default_location.true c.expression.ensures

pub returns : goal.returns
returns c = location-other _ _ _ _ _ c.if-x-eq-DW_LLE_base_addressx.false c.if-x-eq-DW_LLE_base_address.false _ _ _ c.scan_expression-2.ensures c.if-x-eq-DW_LLE_default_location.false c.expression-2.ensures
