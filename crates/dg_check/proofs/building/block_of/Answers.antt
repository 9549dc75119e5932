use Rattle.dg_check.proofs.BuildLaws.{block_made, dirs_at, fields_at}
use Rattle.dg_check.proofs.building.block_of.Goals as goal

pub returns : goal.returns
returns c =
    λ schema ds.
    block_made schema ds c.args.block.now _ c.args.reads.now.items c.var_of-var.new.reads.items c.root_of-root.new.reads.items c.next_orders-orders.new.reads.items c.filters_in.new.reads.items c.fields_of.new.reads.items c.filters_in.result c.fields_of.result
    (λ after. c.var_of-var.ensures schema ds after) (λ after. c.root_of-root.ensures schema ds after) c.next_orders-orders.ensures.first c.next_orders-orders.ensures.rest c.in_ok-filters.was
    (dirs_at schema ds c.as_slice.result.now c.args.block.now.dirs c.filters_in.result c.next_orders-orders.new.reads.items c.filters_in.new.reads.items c.as_slice.ensures (λ after. c.filters_in.ensures schema ds after))
    c.in_ok-fields.was
    (fields_at schema ds c.as_slice-2.result.now c.args.block.now.fields c.fields_of.result c.filters_in.new.reads.items c.fields_of.new.reads.items c.as_slice-2.ensures (λ after. c.fields_of.ensures schema ds after))
