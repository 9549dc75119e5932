use Rattle.std.proofs.Common.{◌≡◌, ◌∙◌, List, ap, sym, subst}
use Rattle.std.specs.Prelude.{find, nat_lt, map}
use Rattle.dg_keys.specs.declared.record.Record.{Record}
use Rattle.dg_oracle.specs.Commits.{Ascends}
use Rattle.dg_zero.specs.Pasts.{entries}
use Rattle.dg_zero.specs.Records.{records, ts_of, next_record}
use Rattle.dg_zero.specs.States.{Zero}
use Rattle.dg_zero.proofs.RecordsApart.{records_are}
use Rattle.dg_zero.proofs.RecordsInTurn.{records_ascend}
use Rattle.dg_zero.proofs.zero.ZeroState.next_record.Goals as goal

pub record_after-requires : goal.record_after-requires
record_after-requires c = record {
  ascend =
      let apart : records (entries c.self.inside.past) ≡ c.self.inside.past.records.items = records_are c.self.inside.past.records.items c.self.inside.past.chain c.self.inside.past.counted in
      subst (λ (rs : List Record). Ascends 0 (map ts_of rs)) (apart ∙ sym c.as_slice.ensures.value) (records_ascend c.self.inside.groups (entries c.self.inside.past) c.self.invariant.legal).ascend;
}

pub returns : goal.returns
returns c =
    let apart : records (entries c.self.inside.past) ≡ c.self.inside.past.records.items = records_are c.self.inside.past.records.items c.self.inside.past.chain c.self.inside.past.counted in
    c.record_after.ensures
    ∙ (ap (λ (rs : List Record). find (λ r. nat_lt c.args.after r.ts) rs) (c.as_slice.ensures.value ∙ sym apart)
    ∙ ap (λ (z : Zero). next_record z.history c.args.after) c.self.view_is)
