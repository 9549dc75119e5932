use Rattle.std.proofs.Common.{◌<◌, ◌+◌, ℕ, List, length, get_or, drop, subst, arith}
use Rattle.std.proofs.lemmas.List.{drop_more}
use Rattle.dg_base.specs.Cursors.{StandsBefore}
use Rattle.dg_base.proofs.reading.Cursor.behind.Goals as goal

pub next-cursor-requires : goal.next-cursor-requires
next-cursor-requires c =
    let xs = c.requires.0 in
    let n = c.loop-read._read in
    let within : n < length xs = omega (arith, c.requires.1) in
    (get_or xs n 0, drop (n + 1) xs, subst (λ (ys : List ℕ). StandsBefore c.args.bytes.now c.loop-read.cursor ys) (drop_more xs n 0 within) (c.loop-read.invariant xs c.requires.1 c.requires.2))

pub loop-read-preserved : goal.loop-read-preserved
loop-read-preserved c = λ xs most stands.
    let n = c.loop-read._read in
    let within : n < length xs = omega arith in
    (c.next-cursor.ensures (get_or xs n 0) (drop (n + 1) xs) (subst (λ (ys : List ℕ). StandsBefore c.args.bytes.now c.loop-read.cursor ys) (drop_more xs n 0 within) (c.loop-read.invariant xs most stands))).1
