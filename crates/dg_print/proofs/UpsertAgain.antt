-- Mutations and upsert blocks are read again.
use Rattle.std.proofs.Common.{◌≡◌, ℕ, suc, Bool, true, ◌||◌, List, [], ◌∷◌, ◌++◌, flat_map, map, ap, refl, sym, ◌∙◌, subst, arith}
use Rattle.std.specs.Prelude.{Option, Some, None, Ok, Err, codes}
use Rattle.std.specs.List.{AllByRecursion}
use Rattle.dg_text.specs.Cases.{Left, met, part, optional, repeated}
use Rattle.dg_text.specs.Listed.{AreListed}
use Rattle.dg_text.specs.Marks.{open_round, close_round, open_curly, close_curly}
use Rattle.dg_text.specs.Reading.{Read, next}
use Rattle.dg_text.specs.Spelling.{name_word, mark_word}
use Rattle.dg_text.specs.Tokens.{Tok, is_punct, is_word}
use Rattle.dg_text.specs.Written.{Word, IsWord, word_said, tok_said}
use Rattle.dg_text.proofs.Leaving.{Ends, further}
use Rattle.dg_text.proofs.NameSpelling.{names_are_whole}
use Rattle.dg_nquad.specs.declared.mutation.Statement.{Statement}
use Rattle.dg_nquad.specs.Grammar.{statement, groups, begins_statement}
use Rattle.dg_nquad.specs.Grouped.{AreGrouped, IsGrouped}
use Rattle.dg_nquad.specs.Readable.{StandsAlone}
use Rattle.dg_nquad.specs.Readable as nquad
use Rattle.dg_nquad.specs.Texts.{groups_words}
use Rattle.dg_nquad.proofs.GroupsBack.{groups_read}
use Rattle.dg_nquad.proofs.GroupsListed.{groups_listed}
use Rattle.dg_nquad.proofs.Standing.{read_stand_alone}
use Rattle.dg_nquad.proofs.StatementWords.{groups_are}
use Rattle.dg_parse.specs.declared.upsert.UCond.{UCond}
use Rattle.dg_parse.specs.declared.upsert.UMut.{UMut}
use Rattle.dg_parse.specs.declared.upsert.Upsert.{Upsert}
use Rattle.dg_parse.specs.Grammar.{braced_blocks}
use Rattle.dg_print.specs.PrintedQuery.{query_words}
use Rattle.dg_print.specs.PrintedUpsert.{cond_words, if_words, mut_words, upsert_words}
use Rattle.dg_parse.specs.Upsert.{is_at_word, if_part, mut_of, begins_mut, muts, upsert}
use Rattle.dg_print.proofs.Again.{Each, Reads, AreWords, bind, gives, weaker, either, at_skip, words_append, never, at, on, tok_from, behind, on_append}
use Rattle.dg_print.proofs.BlocksAgain.{AreBlocks, at_braced_blocks, braced_blocks_read}
use Rattle.dg_print.proofs.ConditionWords.{IsCond}
use Rattle.dg_print.proofs.ConditionsAgain.{at_condition, condition_reads}
use Rattle.dg_print.proofs.FixedWords.{fixed, fixed_at, sign}
use Rattle.dg_print.proofs.Formed.{AreFormed}
use Rattle.dg_print.proofs.Lists.{Added, AddedAll, Repeats, at_repeated, repeated_reads, all_of, items_of}

-- ---- groups of statements

listed_ends : (delete : _) (all before : List Statement) (end left : List Tok) → AreListed begins_statement (statement delete) before all end left → Ends left end
listed_ends d [] before end left a = record { tokens = []; is = a.0 }
listed_ends d (s ∷ all) before end left a = further left a.rest end (record { tokens = a.tokens; is = a.is }) (listed_ends d all (before ++ s ∷ []) end a.rest a.more)

grouped_ends : (u : Bool) (gs : List (List Statement)) (before : List Statement) (end left : List Tok) → AreGrouped u before gs end left → Ends left end
grouped_ends u [] before end left a = record { tokens = []; is = a.0 }
grouped_ends u (all ∷ more) before end left a =
    further left a.inner end (record { tokens = a.word ∷ a.opening ∷ []; is = a.is })
    (further a.inner (a.closing ∷ a.rest) end (listed_ends _ all before (a.closing ∷ a.rest) a.inner a.listed)
    (further (a.closing ∷ a.rest) a.rest end (record { tokens = a.closing ∷ []; is = refl }) (grouped_ends u more (before ++ all) end a.rest a.more)))

groups_end : (all : List Statement) (left rest : List Tok) → groups true left ≡ Ok (all, rest) → Ends left rest
groups_end all left rest e =
    let g : IsGrouped true all left rest = (groups_listed true all left rest).0 e in
    further left g.inner rest (record { tokens = g.opening ∷ []; is = g.is })
    (further g.inner (g.closing ∷ rest) rest (grouped_ends true g.groups [] (g.closing ∷ rest) g.inner g.are) (record { tokens = g.closing ∷ []; is = refl }))

end_formed : (front rest : List Tok) → AreFormed (front ++ rest) → AreFormed rest
end_formed [] rest a = a
end_formed (t ∷ front) rest a = end_formed front rest a.1

as_nquad : (tokens : List Tok) → AreFormed tokens → nquad.AreFormed tokens
as_nquad [] a = tt
as_nquad (t ∷ ts) a = (record { name = λ h. let w : IsWord (name_word t.text) = a.0.name h in names_are_whole t.text w.form w.short; blank = a.0.blank }, as_nquad ts a.1)

-- statements that can be written
abbrev pub AreStatements : List Statement → Type 0
AreStatements all = AllByRecursion (StandsAlone true) all

at_groups : (left : Left) → Each left (part (groups true) left) (λ all l. AreStatements all)
at_groups left = by (groups true left.tokens) refl
  where
    by : (r : Read (List Tok) (List Statement)) → groups true left.tokens ≡ r → Each left (met left.refused r) (λ all l. AreStatements all)
    by (Ok p) e =
        let ends : Ends left.tokens p.1 = groups_end p.0 left.tokens p.1 e in
        record {
          it = record {
            formed = λ a. end_formed ends.tokens p.1 (subst (λ (l : List Tok). AreFormed l) ends.is a);
            earlier = λ z. z;
            so = λ a z. (read_stand_alone true p.0 left.tokens p.1 (as_nquad left.tokens a) e).0;
          };
        }
    by (Err place) e = record { it = tt }

on_front : (f : ℕ → ℕ) (ws : List Word) (rest : List Tok) → on f ws rest ≡ on f ws [] ++ rest
on_front f [] rest = refl
on_front f (w ∷ ws) rest = ap (λ l. tok_from (f 0) w ∷ l) (on_front (λ n. f (suc n)) ws rest)

on_said : (f : ℕ → ℕ) (ws : List Word) → map tok_said (on f ws []) ≡ map word_said ws
on_said f [] = refl
on_said f (w ∷ ws) = ap (λ l. word_said w ∷ l) (on_said (λ n. f (suc n)) ws)

groups_reads : (all : List Statement) → AreStatements all → Reads (part (groups true)) all (groups_words all) never
groups_reads all a = record {
  words = groups_are true all a;
  again = λ f rest e.
      ap (λ l. met 0 (groups true l)) (on_front f (groups_words all) rest)
      ∙ ap (λ r. met 0 r) (groups_read true all a (on f (groups_words all) []) rest (on_said f (groups_words all)));
}

-- ---- mutations

-- a condition can be written, where there is one
abbrev pub IsAnyCond : Option UCond → Type 0
IsAnyCond None = Unit {0}
IsAnyCond (Some c) = IsCond 33 c

-- a mutation can be written
pub record IsMut (m : UMut) : Type 0 where
  pub cond : IsAnyCond m.cond
  pub all : AreStatements m.mutation.statements

at_mut : (before : List UMut) (left : Left) → Each left (mut_of before left) (λ all l. Added (λ _ m. IsMut m) before all)
unfolding mut_of if_part
at_mut before left =
    bind _ (at_skip (is_word (codes "mutation")) left)
    (λ _ l. bind {X = λ c _. IsAnyCond c} _ (either (next (is_at_word (codes "@if")) l.tokens)
    (λ e. bind _ (at_skip (is_at_word (codes "@if")) l)
    (λ _ k. bind _ (at_skip (is_punct open_round) k)
    (λ _ m. bind _ (at_condition 33 m)
    (λ c p. bind _ (at_skip (is_punct close_round) p)
    (λ _ q. gives (Some c) q (λ _ h _ _. h))))))
    (λ e. gives None l tt))
    (λ c k. bind _ (at_groups k)
    (λ all m. gives (before ++ record { cond = c; mutation = record { statements = all } } ∷ []) m
    (λ ha hc _. record { item = record { cond = c; mutation = record { statements = all } }; is = refl; good = record { cond = hc; all = ha } }))))

-- mutations that can be written: one or more
pub record AreMuts (all : List UMut) : Type 0 where
  pub first : UMut
  pub more : List UMut
  pub is : all ≡ first ∷ more
  pub good : AllByRecursion IsMut (first ∷ more)

muts_are : (one all : List UMut) → Added (λ _ m. IsMut m) [] one → AddedAll (λ _ m. IsMut m) one all → AreMuts all
muts_are one all a m = record {
  first = a.item;
  more = m.items;
  is = m.is ∙ ap (λ l. l ++ m.items) a.is;
  good = (a.good, all_of IsMut one m.items m.good);
}

at_muts : (left : Left) → Each left (muts left) (λ all l. AreMuts all)
unfolding muts
at_muts left =
    bind _ (at_mut [] left)
    (λ first l. weaker (at_repeated begins_mut mut_of (λ _ m. IsMut m) at_mut first l) (λ all k more one. muts_are first all one more))

if_reads : (c : Option UCond) → IsAnyCond c → (f : ℕ → ℕ) (all : List Statement) (g : ℕ → ℕ) (rest : List Tok)
    → optional (next (is_at_word (codes "@if"))) if_part None (at (on f (if_words c) (on g (groups_words all) rest))) ≡ Ok (c, at (on g (groups_words all) rest))
unfolding if_part
if_reads None h f all g rest = refl
if_reads (Some c) h f all g rest =
    let k : ℕ → ℕ = λ n. f (suc (suc n)) in
    let tail : List Tok = on g (groups_words all) rest in
    rw (on_append k (cond_words c) (mark_word close_round ∷ []) tail, (condition_reads 33 c h).again k (on (behind k (cond_words c)) (mark_word close_round ∷ []) tail) refl) refl

any_cond_words : (c : Option UCond) → IsAnyCond c → AreWords (if_words c)
any_cond_words None h = tt
any_cond_words (Some c) h = (fixed_at (codes "if") refl refl, (sign 40 refl, words_append (cond_words c) (mark_word 41 ∷ []) (condition_reads 33 c h).words (sign 41 refl, tt)))

mut_reads : (before : List UMut) (m : UMut) → IsMut m → Reads (mut_of before) (before ++ m ∷ []) (mut_words m) never
unfolding mut_of
mut_reads before m h =
    let ws : List Word = groups_words m.mutation.statements in
    let all : Reads (part (groups true)) m.mutation.statements ws never = groups_reads m.mutation.statements h.all in
    record {
      words = (fixed (codes "mutation") refl, words_append (if_words m.cond) ws (any_cond_words m.cond h.cond) all.words);
      again = λ f rest e.
          let g : ℕ → ℕ = λ n. f (suc n) in
          let g2 : ℕ → ℕ = behind g (if_words m.cond) in
          rw (on_append g (if_words m.cond) ws rest, if_reads m.cond h.cond g m.mutation.statements g2 rest, all.again g2 rest refl) refl;
    }

muts_repeat : Repeats begins_mut mut_of (λ _ m. IsMut m) mut_words never
muts_repeat = record {
  reads = mut_reads;
  begun = λ before m h f rest. refl;
  clear = λ before m h f rest. refl;
  some = λ before m h. omega arith;
}

all_muts : (first : UMut) (more : List UMut) → AllByRecursion IsMut (first ∷ more) → Reads muts (first ∷ more) (flat_map mut_words (first ∷ more)) (λ l. begins_mut l || never l)
unfolding muts
all_muts first more h =
    let ws : List Word = flat_map mut_words more in
    let rest : Reads (repeated begins_mut mut_of (first ∷ [])) (first ∷ more) ws (λ l. begins_mut l || never l) = repeated_reads begins_mut mut_of (λ _ m. IsMut m) mut_words never muts_repeat (first ∷ []) more (items_of IsMut (first ∷ []) more h.1) in
    record {
      words = words_append (mut_words first) ws (mut_reads [] first h.0).words rest.words;
      again = λ f left e.
          let g : ℕ → ℕ = behind f (mut_words first) in
          rw (on_append f (mut_words first) ws left, (mut_reads [] first h.0).again f (on g ws left) refl, rest.again g left e) refl;
    }

muts_read : (all : List UMut) → AreMuts all → Reads muts all (flat_map mut_words all) (λ l. begins_mut l || never l)
muts_read all h = subst (λ (l : List UMut). Reads muts l (flat_map mut_words l) (λ t. begins_mut t || never t)) (sym h.is) (all_muts h.first h.more h.good)

-- ---- upsert blocks

-- an upsert block can be written
pub record IsUpsert (u : Upsert) : Type 0 where
  pub blocks : AreBlocks u.query.blocks
  pub muts_are : AreMuts u.muts

pub at_upsert : (left : Left) → Each left (upsert left) (λ u l. IsUpsert u)
unfolding upsert
at_upsert left =
    bind _ (at_skip (is_word (codes "upsert")) left)
    (λ _ l. bind _ (at_skip (is_punct open_curly) l)
    (λ _ k. bind _ (at_skip (is_word (codes "query")) k)
    (λ _ m. bind _ (at_braced_blocks m)
    (λ q p. bind _ (at_muts p)
    (λ all r. bind _ (at_skip (is_punct close_curly) r)
    (λ _ s. gives (record { query = q; muts = all }) s (λ _ hm hq _ _ _. record { blocks = hq; muts_are = hm })))))))

pub upsert_reads : (u : Upsert) → IsUpsert u → Reads upsert u (upsert_words u) never
unfolding upsert
upsert_reads u h =
    let ws : List Word = query_words u.query ++ flat_map mut_words u.muts in
    let q : Reads braced_blocks u.query (query_words u.query) never = braced_blocks_read u.query h.blocks in
    let ms : Reads muts u.muts (flat_map mut_words u.muts) (λ l. begins_mut l || never l) = muts_read u.muts h.muts_are in
    record {
      words = (fixed (codes "upsert") refl, (sign 123 refl, (fixed (codes "query") refl, words_append ws (mark_word 125 ∷ []) (words_append (query_words u.query) (flat_map mut_words u.muts) q.words ms.words) (sign 125 refl, tt))));
      again = λ f rest e.
          let g : ℕ → ℕ = λ n. f (suc (suc (suc n))) in
          let g2 : ℕ → ℕ = behind g (query_words u.query) in
          let c : List Tok = on (behind g ws) (mark_word close_curly ∷ []) rest in
          rw (
            on_append g ws (mark_word close_curly ∷ []) rest,
            on_append g (query_words u.query) (flat_map mut_words u.muts) c,
            q.again g (on g2 (flat_map mut_words u.muts) c) refl,
            ms.again g2 c refl,
          ) refl;
    }
