use Rattle.std.proofs.Common.{◌≡◌, ◌≤◌, ◌+◌, ◌*◌, ◌/◌, ◌%◌, ◌∙◌, ℕ, List, length, drop, subst, ap, arith}
use Rattle.std.proofs.lemmas.List.{drop-drop, length-drop}
use Rattle.std.proofs.lemmas.Result.{IfOk-weaker}
use Rattle.dg_base.specs.Cursors.{StandsBefore}
use Rattle.dg_base.proofs.Held.{holds, block_at, stands_in}
use Rattle.dg_base.proofs.nodes.Nodes.push_to.Goals as goal

pub bounds-starts-from : goal.bounds-starts-from
bounds-starts-from c =
    let bytes = c.as_slice-bytes.result.now in
    let starts = c.as_slice-starts.result.now in
    let xs = c.args.self.now in
    let h = holds _ bytes _ starts c.self.inside.count xs c.self.invariant c.self.view_is c.as_slice-bytes.ensures.value c.as_slice-starts.ensures.value in
    block_at bytes starts c.self.inside.count xs h (c.args.from / 128) (omega (arith, c.requires, c.if-most-eq0.false))

pub behind-requires : goal.behind-requires
behind-requires c =
    let bytes = c.as_slice-bytes.result.now in
    let starts = c.as_slice-starts.result.now in
    let xs = c.args.self.now in
    let h = holds _ bytes _ starts c.self.inside.count xs c.self.invariant c.self.view_is c.as_slice-bytes.ensures.value c.as_slice-starts.ensures.value in
    let block = c.args.from / 128 in
    let within = block_at bytes starts c.self.inside.count xs h block (omega (arith, c.requires, c.if-most-eq0.false)) in
    (drop (128 * block) xs, omega (arith, c.requires, c.if-most-eq0.false, length-drop (128 * block) xs), stands_in bytes starts c.self.inside.count xs h block _ c.new-start.result within c.new-start.ensures.last c.new-start.ensures.at c.new-start.ensures.room)

pub push_numbers-requires : goal.push_numbers-requires
push_numbers-requires c =
    let bytes = c.as_slice-bytes.result.now in
    let starts = c.as_slice-starts.result.now in
    let xs = c.args.self.now in
    let h = holds _ bytes _ starts c.self.inside.count xs c.self.invariant c.self.view_is c.as_slice-bytes.ensures.value c.as_slice-starts.ensures.value in
    let block = c.args.from / 128 in
    let within = block_at bytes starts c.self.inside.count xs h block (omega (arith, c.requires, c.if-most-eq0.false)) in
    let before = stands_in bytes starts c.self.inside.count xs h block _ c.new-start.result within c.new-start.ensures.last c.new-start.ensures.at c.new-start.ensures.room in
    let stands = c.behind.ensures (drop (128 * block) xs) (omega (arith, c.requires, c.if-most-eq0.false, length-drop (128 * block) xs)) before in
    let place : 128 * block + c.args.from % 128 ≡ c.args.from = omega arith in
    let there : drop (c.args.from % 128) (drop (128 * block) xs) ≡ drop c.args.from xs = drop-drop (c.args.from % 128) (128 * block) xs ∙ ap (λ (n : ℕ). drop n xs) place in
    (drop c.args.from xs, omega (arith, c.requires, length-drop c.args.from xs), subst (λ (ys : List ℕ). StandsBefore bytes c.behind.result ys) there stands)

pub returns : goal.returns
returns c =
    let bytes = c.as_slice-bytes.result.now in
    let starts = c.as_slice-starts.result.now in
    let xs = c.args.self.now in
    let h = holds _ bytes _ starts c.self.inside.count xs c.self.invariant c.self.view_is c.as_slice-bytes.ensures.value c.as_slice-starts.ensures.value in
    let block = c.args.from / 128 in
    let within = block_at bytes starts c.self.inside.count xs h block (omega (arith, c.requires, c.if-most-eq0.false)) in
    let before = stands_in bytes starts c.self.inside.count xs h block _ c.new-start.result within c.new-start.ensures.last c.new-start.ensures.at c.new-start.ensures.room in
    let stands = c.behind.ensures (drop (128 * block) xs) (omega (arith, c.requires, c.if-most-eq0.false, length-drop (128 * block) xs)) before in
    let place : 128 * block + c.args.from % 128 ≡ c.args.from = omega arith in
    let there : drop (c.args.from % 128) (drop (128 * block) xs) ≡ drop c.args.from xs = drop-drop (c.args.from % 128) (128 * block) xs ∙ ap (λ (n : ℕ). drop n xs) place in
    let long : c.args.most ≤ length (drop c.args.from xs) = omega (arith, c.requires, length-drop c.args.from xs) in
    IfOk-weaker c.push_numbers.result _ _ (λ x e. e (drop c.args.from xs) long (subst (λ (ys : List ℕ). StandsBefore bytes c.behind.result ys) there stands)) c.push_numbers.ensures
