-- Queries and upsert blocks that are read to a greater depth are the same.
use Rattle.std.proofs.Common.{◌≡◌, ℕ, zero, suc, ◌<◌, ◌≤◌, ◌==◌, not, true, false, List, [], length, Option, Some, None, Result, Ok, Err, refl, sym, ap, ◌∙◌, arith}
use Rattle.std.specs.Prelude.{is_some, codes}
use Rattle.dg_text.specs.Brackets.{too_deep}
use Rattle.dg_text.specs.Cases.{Reader, part, word, optional, repeated, ended}
use Rattle.dg_text.specs.Reading.{next, skip}
use Rattle.dg_text.specs.Tokens.{Tok, is_name, is_punct, is_word, toks_of}
use Rattle.dg_text.specs.declared.token.Token.{Token}
use Rattle.dg_nquad.specs.Grammar.{groups}
use Rattle.dg_parse.specs.declared.directives.Marks.{Marks}
use Rattle.dg_parse.specs.declared.directives.Owner.{Owner}
use Rattle.dg_parse.specs.declared.items.Around.{Around}
use Rattle.dg_parse.specs.declared.items.Start.{Start}
use Rattle.dg_parse.specs.declared.query.QBlock.{QBlock}
use Rattle.dg_parse.specs.declared.query.QField.{QField}
use Rattle.dg_parse.specs.declared.upsert.UMut.{UMut}
use Rattle.dg_parse.specs.declared.words.DirWord.{DirWord}
use Rattle.dg_parse.specs.declared.words.DirWord.TheVariants as kinds
use Rattle.dg_parse.specs.Arguments.{bracketed_args}
use Rattle.dg_parse.specs.Conditions.{condition}
use Rattle.dg_print.specs.Depth.{filter_dir_to, dir_of_to, dir_to, all_dirs_to, edge_item_to, item_to, field_to, fields_to, block_to, braced_blocks_to, query_to, if_part_to, mut_to, muts_to, upsert_to}
use Rattle.dg_parse.specs.Directives.{filter_dir, dir_of, dir, begins_dir, unmarked, all_dirs}
use Rattle.dg_parse.specs.Fields.{braces, edge_item, begins_aggregate, item, field, begins_field, fields}
use Rattle.dg_parse.specs.Filters.{filter}
use Rattle.dg_parse.specs.Grammar.{block, braced_blocks, query}
use Rattle.dg_parse.specs.Upsert.{is_at_word, if_part, mut_of, begins_mut, muts, upsert}
use Rattle.dg_parse.specs.Whole.{outcome, shallow, by_tokens}
use Rattle.dg_parse.specs.Words.{directive_meant}
use Rattle.dg_print.proofs.Room.{over, fits}
use Rattle.dg_print.proofs.Even.{Even, then_even, then_closes, opened, closed, part_ends, open_round, close_round, open_curly, word_even, token, perhaps, many, edge_even, bracketed_args_even}
use Rattle.dg_print.proofs.EvenBlocks.{filter_even, condition_even, dir_even, all_dirs_even, front_even, braces_even, item_even, field_even, fields_even, head_even, block_even, braced_blocks_even}
use Rattle.dg_print.proofs.EvenGroups.{groups_even}
use Rattle.dg_print.proofs.Alike.{Same, follows, within, both, choices, options, repetitions, filters, all_conditions}

-- ---- mutations close as many brackets as they open

if_word_even : Even (part (skip (is_at_word (codes "@if"))))
if_word_even = part_ends false (skip (is_at_word (codes "@if"))) (over (is_at_word (codes "@if")) (λ _ _ _. refl))

if_part_even : Even if_part
unfolding if_part
if_part_even = then_even _ _ if_word_even (λ _. opened _ _ open_round (λ _. then_closes _ _ (condition_even 33) (λ _. closed _ _ close_round (λ _ _ _ f. f))))

mut_even : (before : List UMut) → Even (mut_of before)
unfolding mut_of
mut_even before =
    then_even _ _ (word_even (codes "mutation")) (λ _. then_even _ _ (perhaps (next (is_at_word (codes "@if"))) if_part None if_part_even)
    (λ _. then_even _ _ (part_ends false (groups true) (groups_even true)) (λ _ _ _ f. f)))

muts_even : Even muts
unfolding muts
muts_even = then_even _ _ (mut_even []) (λ first. many begins_mut mut_of mut_even first)

module _ (depth : ℕ) (deep : 33 ≤ depth) where
  -- ---- directives

  filter_dir_same : (r : ℕ) → r < 33 → (m : Marks) (place : ℕ) → Same r (filter_dir m place) (filter_dir_to depth m place)
  unfolding filter_dir filter_dir_to
  filter_dir_same r lt m place =
      within r _ _ _ open_round (λ less e _. both less (filter 33) (filter depth) _ _ (filters 33 depth less (omega (arith, e, lt)) (omega (arith, e, lt, deep))) (filter_even 33) (λ _ _ _. refl))

  dir_of_same : (r : ℕ) → r < 33 → (o : Owner) (m : Marks) (place : ℕ) (w : DirWord) → Same r (dir_of o m place w) (dir_of_to depth o m place w)
  unfolding dir_of dir_of_to
  dir_of_same r lt o m place kinds.Filter = filter_dir_same r lt m place
  dir_of_same r lt o m place kinds.Cascade = λ _ _. refl
  dir_of_same r lt o m place kinds.Normalize = λ _ _. refl
  dir_of_same r lt o m place kinds.Recurse = λ _ _. refl

  dir_same : (r : ℕ) → r < 33 → (o : Owner) (m : Marks) → Same r (dir o m) (dir_to depth o m)
  unfolding dir dir_to
  dir_same r lt o m left f = follows r _ _ _ (token directive_meant (λ _ _ _. refl)) (λ w l g. dir_of_same r lt o m _ w _ g) left f

  all_dirs_same : (r : ℕ) → r < 33 → (o : Owner) → Same r (all_dirs o) (all_dirs_to depth o)
  all_dirs_same r lt o = repetitions r (dir o) (dir_to depth o) (dir_even o) (dir_same r lt o) begins_dir unmarked

  -- ---- fields

  module _ (b : Around) (inner inner2 : Reader (List QField)) (even : Even inner) (r : ℕ) (lt : r < 33) (same : (less : ℕ) → r ≡ suc less → Same less inner inner2) where
    braces_same : Same r (braces b inner) (braces b inner2)
    unfolding braces
    braces_same left f = within r _ _ _ open_curly (λ less e _. both less inner inner2 _ _ (same less e) even (λ _ _ _. refl)) _ f

    edge_item_same : (s : Start) (before : List QField) → Same r (edge_item b inner s before) (edge_item_to depth b inner2 s before)
    unfolding edge_item edge_item_to
    edge_item_same s before =
        let o : Owner = record { block = false; has_func = b.has_func; recurse = b.recurse; as_place = 0 } in
        follows r _ _ _ edge_even (λ _ l f. follows r _ _ _ (perhaps (next (is_punct 40)) bracketed_args [] bracketed_args_even)
        (λ _. both r (all_dirs o) (all_dirs_to depth o) _ _ (all_dirs_same r lt o) (all_dirs_even o)
        (λ _. both r (optional (next (is_punct 123)) (braces b inner) None) (optional (next (is_punct 123)) (braces b inner2) None) _ _
        (options r (next (is_punct 123)) (braces b inner) (braces b inner2) None braces_same)
        (perhaps (next (is_punct 123)) (braces b inner) None (braces_even b inner even)) (λ _ _ _. refl))) _ f)

    item_same : (s : Start) (before : List QField) → Same r (item b inner s before) (item_to depth b inner2 s before)
    unfolding item item_to
    item_same s before =
        choices r (next (is_word (codes "uid"))) _ _ _ _ (λ _ _. refl)
        (choices r (next (is_word (codes "count"))) _ _ _ _ (λ _ _. refl)
        (choices r (next (is_word (codes "val"))) _ _ _ _ (λ _ _. refl)
        (choices r begins_aggregate _ _ _ _ (λ _ _. refl) (edge_item_same s before))))

    field_same : (before : List QField) → Same r (field b inner before) (field_to depth b inner2 before)
    unfolding field field_to
    field_same before =
        follows r _ _ _ (front_even b before) (λ f. both r (item b inner f.start before) (item_to depth b inner2 f.start before) _ _ (item_same f.start before) (item_even b inner even f.start before) (λ _ _ _. refl))

  fields_same : (b : Around) (n m r : ℕ) → r < 33 → r < n → r < m → Same r (fields b n) (fields_to depth b m)
  unfolding fields fields_to
  fields_same b zero m r lt ln lm = absurd (omega (arith, ln))
  fields_same b (suc n) zero r lt ln lm = absurd (omega (arith, lm))
  fields_same b (suc n) (suc m) r lt ln lm =
      repetitions r (field b (fields b n)) (field_to depth b (fields_to depth b m)) (field_even b (fields b n) (fields_even b n))
      (field_same b (fields b n) (fields_to depth b m) (fields_even b n) r lt (λ less e. fields_same b n m less (omega (arith, e, lt)) (omega (arith, e, ln)) (omega (arith, e, lm))))
      begins_field []

  -- ---- queries

  block_same : (r : ℕ) → r < 33 → (before : List QBlock) → Same r (block before) (block_to depth before)
  unfolding block block_to
  block_same r lt before =
      follows r _ _ _ (head_even before) (λ h.
      let o : Owner = record { block = true; has_func = is_some h.root.func; recurse = false; as_place = h.as_place } in
      both r (all_dirs o) (all_dirs_to depth o) _ _ (all_dirs_same r lt o) (all_dirs_even o) (λ m. within r _ _ _ open_curly (λ less e _.
      let b : Around = record { has_func = is_some h.root.func; recurse = not (m.recursed == 0) } in
      both less (fields b 33) (fields_to depth b depth) _ _ (fields_same b 33 depth less (omega (arith, e, lt)) (omega (arith, e, lt)) (omega (arith, e, lt, deep))) (fields_even b 33) (λ _ _ _. refl))))

  braced_same : (r : ℕ) → r < 33 → Same r braced_blocks (braced_blocks_to depth)
  unfolding braced_blocks braced_blocks_to
  braced_same r lt =
      within r _ _ _ open_curly (λ less e _. both less (repeated (next is_name) block []) (repeated (next is_name) (block_to depth) []) _ _
      (repetitions less block (block_to depth) block_even (block_same less (omega (arith, e, lt))) (next is_name) []) (many (next is_name) block block_even []) (λ _ _ _. refl))

  query_same : Same 32 query (query_to depth)
  unfolding query query_to
  query_same = follows 32 _ _ _ (perhaps (next (is_word (codes "query"))) (word (codes "query")) tt (word_even (codes "query"))) (λ _. braced_same 32 (omega arith))

  -- ---- upsert blocks

  if_part_same : (r : ℕ) → r < 33 → Same r if_part (if_part_to depth)
  unfolding if_part if_part_to
  if_part_same r lt =
      follows r _ _ _ if_word_even (λ _. within r _ _ _ open_round
      (λ less e _. both less (condition 33) (condition depth) _ _ (all_conditions 33 depth less (omega (arith, e, lt)) (omega (arith, e, lt, deep))) (condition_even 33) (λ _ _ _. refl)))

  mut_same : (r : ℕ) → r < 33 → (before : List UMut) → Same r (mut_of before) (mut_to depth before)
  unfolding mut_of mut_to
  mut_same r lt before =
      follows r _ _ _ (word_even (codes "mutation")) (λ _. both r (optional (next (is_at_word (codes "@if"))) if_part None) (optional (next (is_at_word (codes "@if"))) (if_part_to depth) None) _ _
      (options r (next (is_at_word (codes "@if"))) if_part (if_part_to depth) None (if_part_same r lt))
      (perhaps (next (is_at_word (codes "@if"))) if_part None if_part_even) (λ _ _ _. refl))

  muts_same : (r : ℕ) → r < 33 → Same r muts (muts_to depth)
  unfolding muts muts_to
  muts_same r lt = both r (mut_of []) (mut_to depth []) _ _ (mut_same r lt []) (mut_even []) (λ first. repetitions r mut_of (mut_to depth) mut_even (mut_same r lt) begins_mut first)

  upsert_same : Same 32 upsert (upsert_to depth)
  unfolding upsert upsert_to
  upsert_same =
      follows 32 _ _ _ (word_even (codes "upsert")) (λ _. within 32 _ _ _ open_curly (λ less e _. follows less _ _ _ (word_even (codes "query"))
      (λ _. both less braced_blocks (braced_blocks_to depth) _ _ (braced_same less (omega (arith, e))) braced_blocks_even
      (λ _. both less muts (muts_to depth) _ _ (muts_same less (omega (arith, e))) muts_even (λ _ _ _. refl)))))

-- fields to two depths
pub all_fields : (b : Around) (n m r : ℕ) → r < 33 → r < n → r < m → Same r (fields b n) (fields b m)
all_fields b n m r lt ln lm left f = fields_same 33 (omega arith) b n (suc r) r lt ln (omega arith) left f ∙ sym (fields_same 33 (omega arith) b m (suc r) r lt lm (omega arith) left f)

-- ---- whole texts

module _ {A : Type 0} (reader other : Reader A) (same : Same 32 reader other) where
  shallow_same : (tokens : List Tok) (end : ℕ) (deep : Option ℕ) → too_deep 32 tokens ≡ deep → shallow other tokens end deep ≡ shallow reader tokens end deep
  shallow_same tokens end (Some place) e = refl
  shallow_same tokens end None e = ap (λ read. outcome tokens end (ended read)) (sym (same (record { tokens = tokens; refused = 0 }) (fits 32 tokens e)))

  by_tokens_same : (text : List ℕ) (read : Result (List Token) ℕ) → by_tokens other text read ≡ by_tokens reader text read
  by_tokens_same text (Ok tokens) = shallow_same (toks_of text tokens) (length text) (too_deep 32 (toks_of text tokens)) refl
  by_tokens_same text (Err offset) = refl

pub any_query : (depth : ℕ) (text : List ℕ) (read : Result (List Token) ℕ) → 33 ≤ depth → by_tokens (query_to depth) text read ≡ by_tokens query text read
any_query depth text read deep = by_tokens_same query (query_to depth) (query_same depth deep) text read

pub any_upsert : (depth : ℕ) (text : List ℕ) (read : Result (List Token) ℕ) → 33 ≤ depth → by_tokens (upsert_to depth) text read ≡ by_tokens upsert text read
any_upsert depth text read deep = by_tokens_same upsert (upsert_to depth) (upsert_same depth deep) text read
