use Rattle.std.proofs.Common.{◌≡◌, sym, ◌∙◌}
use Rattle.std.specs.Str.Lossy.{utf8_valid_len}
use Rattle.dg_schema.specs.Whole as language
use Rattle.dg_wire.specs.declared.refusal.Refusal.TheVariants as refusals
use Rattle.dg_wire.specs.declared.reply.Reply.{Reply}
use Rattle.dg_wire.specs.declared.reply.Reply.TheVariants as replies
use Rattle.dg_node.specs.Alters.{alters, altered_by}
use Rattle.dg_node.specs.Machine.{Machine}
use Rattle.dg_node.proofs.Altering.{said_meets, unasked_meets}
use Rattle.dg_node.proofs.MutationLemmas.{not_whole}
use Rattle.dg_node.proofs.TextLemmas.{alters_said, alters_unread}
use Rattle.dg_node.proofs.alters.alter.Goals as goal

pub returns-in-Ok-clause-ok : goal.returns-in-Ok-clause-ok
returns-in-Ok-clause-ok g c =
    said_meets (g.C.Cluster.takes c.args.cluster.now) c.args.author (g.C.Cluster.zero c.args.cluster.now) (g.C.Cluster.zero c.alter_by.new.cluster) c.alter_by.result
    (λ (p : Reply) (m n : Machine). ◌≡◌ {A = Reply × Machine} (altered_by m (language.schema c.in-Ok.text.now)) (p, n))
    (λ (p : Reply) (m n : Machine). ◌≡◌ {A = Reply × Machine} (alters m c.args.body.now) (p, n))
    (λ p m n e. alters_said m c.args.body.now c.in-Ok.text.now c.in-Ok.ensures.cases ∙ e) c.alter_by.ensures.ok

pub returns-in-Err-clause-ok : goal.returns-in-Err-clause-ok
returns-in-Err-clause-ok g c =
    let body = c.args.body.now in
    let at : utf8_valid_len body ≡ c.valid_up_to.result = sym (c.valid_up_to.ensures ∙ c.in-Err.ensures.valid_len) in
    unasked_meets (g.C.Cluster.takes c.args.cluster.now) c.args.author (λ (m n : Machine). ◌≡◌ {A = Reply × Machine} (alters m body) (replies.Refused (refusals.BadToken c.valid_up_to.result), n)) (g.C.Cluster.zero c.args.cluster.now) c.history_is_legal.ensures
    (λ m. alters_unread m body c.valid_up_to.result at (not_whole body _ c.in-Err.ensures.cases.1))
