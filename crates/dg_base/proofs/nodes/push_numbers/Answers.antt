use Rattle.std.proofs.Common.{◌<◌, ◌+◌, ◌∷◌, ◌++◌, ◌∙◌, [], ℕ, List, length, get_or, take, drop, map, append_assoc, subst, ap, sym, arith}
use Rattle.std.proofs.lemmas.List.{drop_more, map_more}
use Rattle.dg_values.specs.declared.value.Posting.{Posting}
use Rattle.dg_values.specs.declared.value.Posting.TheVariants.{Uid}
use Rattle.dg_base.specs.Cursors.{StandsBefore}
use Rattle.dg_base.proofs.nodes.push_numbers.Goals as goal

pub next-cursor-requires : goal.next-cursor-requires
next-cursor-requires c =
    let xs = c.requires.0 in
    let n = c.loop-read._read in
    let within : n < length xs = omega (arith, c.requires.1) in
    (get_or xs n 0, drop (n + 1) xs, subst (λ (ys : List ℕ). StandsBefore c.args.bytes.now c.loop-read.cursor ys) (drop_more xs n 0 within) (c.loop-read.invariant.stands xs c.requires.1 c.requires.2))

pub loop-read-preserved : goal.loop-read-preserved
loop-read-preserved c = record {
  stands = λ xs most stands.
      let n = c.loop-read._read in
      let within : n < length xs = omega arith in
      (c.next-cursor.ensures (get_or xs n 0) (drop (n + 1) xs) (subst (λ (ys : List ℕ). StandsBefore c.args.bytes.now c.loop-read.cursor ys) (drop_more xs n 0 within) (c.loop-read.invariant.stands xs most stands))).1;
  so_far = λ xs most stands.
      let n = c.loop-read._read in
      let within : n < length xs = omega arith in
      let old = c.args.items.now.items in
      let next = c.next-cursor.ensures (get_or xs n 0) (drop (n + 1) xs) (subst (λ (ys : List ℕ). StandsBefore c.args.bytes.now c.loop-read.cursor ys) (drop_more xs n 0 within) (c.loop-read.invariant.stands xs most stands)) in
      c.in_ok-push.ensures.items
      ∙ ap (λ (ps : List Posting). ps ++ Uid c.next-cursor.result.last ∷ []) (c.loop-read.invariant.so_far xs most stands)
      ∙ append_assoc old (map (λ m. Uid m) (take n xs)) (Uid c.next-cursor.result.last ∷ [])
      ∙ ap (λ (m : ℕ). old ++ (map (λ m. Uid m) (take n xs) ++ Uid m ∷ [])) next.0
      ∙ ap (λ (ps : List Posting). old ++ ps) (sym (map_more (λ m. Uid m) xs n 0 within));
}
