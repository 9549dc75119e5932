use Rattle.std.proofs.Common.{◌≡◌, ◌++◌, List, flat_map, subst, ◌∙◌}
use Rattle.std.specs.Prelude.{OnOk}
use Rattle.dg_uids.specs.Sets.{common}
use Rattle.dg_nquad.specs.declared.mutation.Node.TheVariants as nodes
use Rattle.dg_nquad.specs.declared.mutation.Object.TheVariants as objects
use Rattle.dg_nquad.specs.declared.mutation.Statement.{Statement}
use Rattle.dg_upsert.specs.Conditions.{nodes_named}
use Rattle.dg_upsert.specs.Meaning.{of_subject}
use Rattle.dg_upsert.proofs.GivingLaws.{given_at_common}
use Rattle.dg_upsert.proofs.giving.add_values_in.Goals as goal

pub returns : goal.returns
returns c =
    let names = c.args.known.now.names in
    let vars = c.args.known.now.vars.now.variables in
    let st = c.args.statement.now in
    let both = c.as_slice.ensures.items ∙ (c.in_ok-common.ensures ∙ (λ i. common (nodes_named names vars (c.as_str.ensures i)) (nodes_named names vars (c.as_str-2.ensures i)))) in
    let given = (λ i. flat_map (λ uid. of_subject names vars st.delete st.p (objects.Val (c.as_str-3.ensures i)) (nodes.Uid uid)) (both i)) ∙ given_at_common names vars st.delete st.p c.args.values.now c.args.subjects.now in
    subst (λ (all : List Statement). OnOk c.add_values.result (c.add_values.new.out.items ≡ all)) (λ i. c.in_ok-make_room.ensures i ++ given i) c.add_values.ensures
