-- Blocks under the names that they define.
use Rattle.std.specs.BTreeMap as tree
use Rattle.std.specs.BTreeMap.{BTreeMap}
use denote.Ref.{Bor}
use Rattle.std.proofs.Common.{◌≡◌, ℕ, ◌+◌, Bool, true, false, cond, List, [], ◌∷◌, ◌++◌, map, length, take, get_or, ◌<◌, Option, Some, None, refl, ap, sym, ◌∙◌, arith}
use Rattle.std.specs.Prelude.{◌||◌, ◌&&◌, not, if◌then◌else◌, flat_map}
use Rattle.std.specs.Str.{bytes_eq}
use Rattle.std.specs.Cmp.Lexicographic.{slice_cmp}
use Rattle.std.specs.Ordering.{nat_cmp}
use Rattle.std.proofs.lemmas.Grind.{common_steps}
use Rattle.std.proofs.lemmas.List.{append_assoc}
use Rattle.std.proofs.lemmas.List.Folds.{list_any-append}
use Rattle.std.proofs.lemmas.Map.Text.{btree_map_updates_str, is_eq-slice_cmp}
use Rattle.dg_values.specs.Order.{text_cmp, same_text}
use Rattle.dg_sets.proofs.MadeOrders.{text_order}
use Rattle.dg_sets.proofs.Sets.{is_one, eq_turn}
use Rattle.dg_check.specs.declared.blocks.BlockNames.{BlockNames}
use Rattle.dg_check.specs.Names.{is_name_in}
use Rattle.dg_check.specs.Cycles.{definers_from, definers}
use Rattle.dg_check.specs.RunOrder.{blocks_under, alone_where, dependencies}

-- ---- one block more under a name

abbrev pub listed : Option (List ℕ) → List ℕ
listed None = []
listed (Some blocks) = blocks

-- what is under another name stays
under_other : (name x : List ℕ) (was : Option (List ℕ)) (own blocks : List ℕ) (at : ℕ) (v : Bool) → bytes_eq name x ≡ v → blocks ≡ own ++ at ∷ [] → (name ≡ x → own ≡ listed was)
    → listed (cond v (Some blocks) (cond v None was)) ≡ listed was ++ alone_where v at
under_other name x was own blocks at true e made same = made ∙ ap (λ l. l ++ at ∷ []) (same (sym (is_one text_cmp text_order x name (eq_turn text_cmp text_order x name ∙ (is_eq-slice_cmp name x ∙ e)))))
under_other name x was own blocks at false e made same = nothing (listed was)
  where
    nothing : (l : List ℕ) → l ≡ l ++ []
    nothing [] = refl
    nothing (y ∷ l) = ap (λ k. y ∷ k) (nothing l)

under_is : (m : BTreeMap (Bor (List ℕ)) (List ℕ)) (x : List ℕ) → (o : Option (List ℕ)) → tree.get_by (λ k. text_cmp x k.now) m ≡ o → blocks_under m x ≡ listed o
under_is m x None e = λ i. elim (e i) [ None ↦ [] | Some blocks ↦ blocks ]
under_is m x (Some blocks) e = λ i. elim (e i) [ None ↦ [] | Some blocks ↦ blocks ]

pub under_more : (before between after : BTreeMap (Bor (List ℕ)) (List ℕ)) (name : Bor (List ℕ)) (at : ℕ) (blocks : List ℕ)
    → tree.UpdatesBy (λ x y. slice_cmp nat_cmp x.now y.now) (λ k. slice_cmp nat_cmp name.now k.now) before between None
    → tree.UpdatesBy (λ x y. slice_cmp nat_cmp x.now y.now) (λ k. slice_cmp nat_cmp name.now k.now) between after (Some blocks)
    → blocks ≡ blocks_under before name.now ++ at ∷ []
    → (x : List ℕ) → blocks_under after x ≡ blocks_under before x ++ alone_where (same_text x name.now) at
under_more before between after name at blocks out in_ made x =
    let was : Option (List ℕ) = tree.get_by (λ k. text_cmp x k.now) before in
    let b : Bool = bytes_eq name.now x in
    let e : tree.get_by (λ k. text_cmp x k.now) after ≡ cond b (Some blocks) (cond b None was) =
    btree_map_updates_str name.now between after (Some blocks) in_ x ∙ ap (λ o. cond b (Some blocks) o) (btree_map_updates_str name.now before between None out x) in
    let test : same_text x name.now ≡ b = eq_turn text_cmp text_order x name.now ∙ is_eq-slice_cmp name.now x in
    under_is after x (cond b (Some blocks) (cond b None was)) e
    ∙ under_other name.now x was (blocks_under before name.now) blocks at b refl made (λ same. ap (blocks_under before) same ∙ under_is before x was refl)
    ∙ ap (λ l. l ++ alone_where b at) (sym (under_is before x was refl))
    ∙ ap (λ v. blocks_under before x ++ alone_where v at) (sym test)

-- ---- each of a block's names once

once_more : (a b c : Bool) (at : ℕ) → (c ≡ true → b ≡ a) → alone_where a at ++ alone_where (not b && c) at ≡ alone_where (a || (c || false)) at
once_more true true true at h = refl
once_more true false true at h = absurd (let e = h refl in cc)
once_more false true true at h = absurd (let e = h refl in cc)
once_more false false true at h = refl
once_more true true false at h = refl
once_more true false false at h = refl
once_more false true false at h = refl
once_more false false false at h = refl

pub had_more : (had : List (List ℕ)) (name x : List ℕ) (at : ℕ) → alone_where (is_name_in had x) at ++ alone_where (not (is_name_in had name) && same_text x name) at ≡ alone_where (is_name_in (had ++ name ∷ []) x) at
had_more had name x at =
    once_more (is_name_in had x) (is_name_in had name) (same_text x name) at (λ e. ap (is_name_in had) (sym (is_one text_cmp text_order x name e)))
    ∙ ap (λ v. alone_where v at) (sym (list_any-append (same_text x) had (name ∷ [])))

-- the blocks under a name, from those before, with one more name had
pub block_more : (under had_under first : List ℕ) (had more : List (List ℕ)) (name x : List ℕ) (at : ℕ)
    → under ≡ had_under ++ alone_where (not (is_name_in had name) && same_text x name) at
    → had_under ≡ first ++ alone_where (is_name_in had x) at
    → more ≡ had ++ name ∷ []
    → under ≡ first ++ alone_where (is_name_in more x) at
block_more under had_under first had more name x at e f g =
    e ∙ ap (λ l. l ++ alone_where (not (is_name_in had name) && same_text x name) at) f
    ∙ append_assoc first (alone_where (is_name_in had x) at) (alone_where (not (is_name_in had name) && same_text x name) at)
    ∙ ap (λ l. first ++ l) (had_more had name x at)
    ∙ ap (λ ns. first ++ alone_where (is_name_in ns x) at) (sym g)

-- ---- all blocks

alone_and : (v : Bool) (at : ℕ) (rest : List ℕ) → alone_where v at ++ rest ≡ (if v then at ∷ rest else rest)
alone_and true at rest = refl
alone_and false at rest = refl

-- one block more
pub definers_more : (x : List ℕ) (under before : List ℕ) (names : List (List ℕ)) (block : BlockNames) (at : ℕ) (more : List BlockNames)
    → under ≡ before ++ alone_where (is_name_in names x) at → names ≡ block.defined
    → under ++ definers_from x (at + 1) more ≡ before ++ definers_from x at (block ∷ more)
definers_more x under before names block at more e f =
    ap (λ l. l ++ definers_from x (at + 1) more) (e ∙ ap (λ ns. before ++ alone_where (is_name_in ns x) at) f)
    ∙ append_assoc before (alone_where (is_name_in block.defined x) at) (definers_from x (at + 1) more)
    ∙ ap (λ l. before ++ l) (alone_and (is_name_in block.defined x) at (definers_from x (at + 1) more))

-- what each block needs, by the definers of each name
pub by_definers : (blocks : List BlockNames) (under : BTreeMap (Bor (List ℕ)) (List ℕ)) → ((x : List ℕ) → blocks_under under x ≡ definers blocks x) → map (λ block. flat_map (blocks_under under) block.used) blocks ≡ dependencies blocks
by_definers blocks under e = λ i. map (λ block. flat_map (λ x. e x i) block.used) blocks

-- what one name more adds to what is needed
pub needs_more : (f : List ℕ → List ℕ) (names : List (Bor (List ℕ))) (i : ℕ) (name : Bor (List ℕ)) (before after : List ℕ) → i < length names → before ≡ flat_map f (map (λ n. n.now) (take i names)) → after ≡ before ++ f (get_or names i name).now
    → after ≡ flat_map f (map (λ n. n.now) (take (i + 1) names))
needs_more f names i name before after lt e g = grind (arith, common_steps)
