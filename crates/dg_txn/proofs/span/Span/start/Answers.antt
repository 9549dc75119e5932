use Rattle.dg_keys.specs.declared.key.Key.TheVariants.{Data, Count, RCount}
use Rattle.dg_txn.specs.declared.span.Over.TheVariants.{Subjects, Objects, Pointers}
use Rattle.dg_txn.proofs.SpanLaws.{starts, subjects_start, objects_start, pointers_start, begun}
use Rattle.dg_txn.proofs.span.Span.start.Goals as goal

pub returns-in-Subjects : goal.returns-in-Subjects
returns-in-Subjects c = starts c.args.self.now c.in_ok-p.p Subjects (Data c.in_ok-p.p 0) c.in_ok-p.ensures c.in-Subjects.is (subjects_start c.in_ok-p.p)

pub returns-in-Tokens : goal.returns-in-Tokens
returns-in-Tokens c =
    let w = c.in-Tokens in
    begun c.args.self.now c.in_ok-p.p w.tokenizer w.low w.high c.tokens_start.result c.in_ok-p.ensures w.is c.tokens_start.ensures

pub returns-in-Objects : goal.returns-in-Objects
returns-in-Objects c = starts c.args.self.now c.in_ok-p.p (Objects c.in-Objects.low c.in-Objects.high) (Count c.in_ok-p.p c.in-Objects.low) c.in_ok-p.ensures c.in-Objects.is (objects_start c.in_ok-p.p c.in-Objects.low c.in-Objects.high)

pub returns-in-Pointers : goal.returns-in-Pointers
returns-in-Pointers c = starts c.args.self.now c.in_ok-p.p (Pointers c.in-Pointers.low c.in-Pointers.high) (RCount c.in_ok-p.p c.in-Pointers.low) c.in_ok-p.ensures c.in-Pointers.is (pointers_start c.in_ok-p.p c.in-Pointers.low c.in-Pointers.high)
