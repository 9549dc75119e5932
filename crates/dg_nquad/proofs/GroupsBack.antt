-- Tokens that say the words of statements in groups are read as these statements.
use Rattle.std.proofs.Common.{◌≡◌, ℕ, ◌<◌, Bool, true, false, List, [], ◌∷◌, ◌++◌, Some, Ok, length, append_assoc, refl, ap, ◌∙◌, arith}
use Rattle.std.specs.Prelude.{map, flat_map, is_some}
use Rattle.std.specs.List.{AllByRecursion}
use Rattle.dg_text.specs.Marks.{open_curly, close_curly}
use Rattle.dg_text.specs.Listed.{AreListed}
use Rattle.dg_text.specs.Reading.{next, repeated}
use Rattle.dg_text.specs.Tokens.{Tok, is_punct}
use Rattle.dg_text.specs.Spelling.{iri_word, name_word, mark_word}
use Rattle.dg_text.specs.Written.{Word, word_said, tok_said}
use Rattle.dg_text.specs.declared.token.TokenKind.{TokenKind}
use Rattle.dg_text.proofs.Listing.{listed_read}
use Rattle.dg_nquad.specs.declared.block.Block.{Block}
use Rattle.dg_nquad.specs.declared.mutation.Node.{Node}
use Rattle.dg_nquad.specs.declared.mutation.Node.TheVariants as nodes
use Rattle.dg_nquad.specs.declared.mutation.Statement.{Statement}
use Rattle.dg_nquad.specs.Grammar.{statement, statements, group, groups, begins_statement, begins_group}
use Rattle.dg_nquad.specs.Readable.{Stands, StandsAlone}
use Rattle.dg_nquad.specs.Texts.{node_words, object_words, statement_words, statements_words, group_name, alone_words, groups_words}
use Rattle.dg_nquad.specs.Words.{group_meant}
use Rattle.dg_nquad.proofs.Listed.{statements_listed}
use Rattle.dg_nquad.proofs.Understood.{statement_read, statement_begins}

-- ---- tokens that say words

-- these tokens say these words
abbrev Say : List Tok → List Word → Type 0
Say ts ws = map tok_said ts ≡ map word_said ws

abbrev Said : Type 0
Said = TokenKind × List ℕ

abbrev first_or : Said → List Said → Said
first_or d [] = d
first_or d (s ∷ more) = s

abbrev more_of : List Said → List Said
more_of [] = []
more_of (s ∷ more) = more

-- tokens that say some words, and then others
record Parted (ts : List Tok) (ws more : List Word) : Type 0 where
  pub front : List Tok
  pub rest : List Tok
  pub is : ts ≡ front ++ rest
  pub said : Say front ws
  pub others : Say rest more

parted : (ts : List Tok) (ws more : List Word) → Say ts (ws ++ more) → Parted ts ws more
parted ts [] more e = record { front = []; rest = ts; is = refl; said = refl; others = e }
parted [] (w ∷ ws) more e = absurd (cc)
parted (t ∷ ts) (w ∷ ws) more e =
    let one : tok_said t ≡ word_said w = ap (first_or (tok_said t)) e in
    let p = parted ts ws more (ap more_of e) in
    record { front = t ∷ p.front; rest = p.rest; is = ap (λ (l : List Tok). t ∷ l) p.is; said = λ i. one i ∷ p.said i; others = p.others }

-- tokens of which the first says a word
record First (ts : List Tok) (w : Word) (ws : List Word) : Type 0 where
  pub tok : Tok
  pub rest : List Tok
  pub is : ts ≡ tok ∷ rest
  pub said : tok_said tok ≡ word_said w
  pub others : Say rest ws

first : (ts : List Tok) (w : Word) (ws : List Word) → Say ts (w ∷ ws) → First ts w ws
first [] w ws e = absurd (cc)
first (t ∷ ts) w ws e = record { tok = t; rest = ts; is = refl; said = ap (first_or (tok_said t)) e; others = ap more_of e }

none_left : (ts : List Tok) → Say ts [] → ts ≡ []
none_left [] e = refl
none_left (t ∷ ts) e = absurd (cc)

-- ---- single tokens

-- what a token of its kind and its characters is
abbrev kind_tok : Tok → Said → Tok
kind_tok t s = record { kind = s.0; text = s.1; start = t.start }

opens : (t : Tok) → tok_said t ≡ word_said (mark_word open_curly) → is_punct open_curly t ≡ true
opens t e = ap (λ (s : Said). is_punct open_curly (kind_tok t s)) e

closes : (t : Tok) → tok_said t ≡ word_said (mark_word close_curly) → is_punct close_curly t ≡ true
closes t e = ap (λ (s : Said). is_punct close_curly (kind_tok t s)) e

no_statement : (t : Tok) (left : List Tok) → tok_said t ≡ word_said (mark_word close_curly) → begins_statement (t ∷ left) ≡ false
no_statement t left e = ap (λ (s : Said). begins_statement (kind_tok t s ∷ left)) e

no_group : (t : Tok) (left : List Tok) → tok_said t ≡ word_said (mark_word close_curly) → begins_group (t ∷ left) ≡ false
no_group t left e = ap (λ (s : Said). begins_group (kind_tok t s ∷ left)) e

name_meant_so : (delete : Bool) (t : Tok) → group_meant (kind_tok t (word_said (name_word (group_name delete)))) ≡ Some delete
name_meant_so true t = refl
name_meant_so false t = refl

says_group : (delete : Bool) (t : Tok) → tok_said t ≡ word_said (name_word (group_name delete)) → group_meant t ≡ Some delete
says_group delete t e = ap (λ (s : Said). group_meant (kind_tok t s)) e ∙ name_meant_so delete t

-- ---- statements

some_tokens : (n : Node) (ws : List Word) (ts : List Tok) → Say ts (node_words n ++ ws) → 0 < length ts
some_tokens n ws (t ∷ ts) e = omega arith
some_tokens (nodes.Uid n) ws [] e = absurd (cc)
some_tokens (nodes.Blank name) ws [] e = absurd (cc)
some_tokens (nodes.Var name) ws [] e = absurd (cc)

-- tokens that say the words of statements are a list of these
pub all_listed : (block : Block) (all : List Statement) → AllByRecursion (Stands block) all → (before : List Statement) (ts end : List Tok) → Say ts (statements_words all) → begins_statement end ≡ false
    → AreListed begins_statement (statement block) before all end (ts ++ end)
all_listed block [] a before ts end e stop = (ap (λ (l : List Tok). l ++ end) (none_left ts e), stop)
all_listed block (s ∷ all) a before ts end e stop =
    let p = parted ts (statement_words s) (statements_words all) e in
    record {
      tokens = p.front;
      rest = p.rest ++ end;
      some = some_tokens s.s (iri_word s.p ∷ (object_words s.o ++ mark_word 46 ∷ [])) p.front p.said;
      is = ap (λ (l : List Tok). l ++ end) p.is ∙ append_assoc p.front p.rest end;
      begun = ap (λ (l : List Tok). begins_statement (l ++ end)) p.is ∙ ap begins_statement (append_assoc p.front p.rest end) ∙ statement_begins s p.front (p.rest ++ end) p.said;
      read = ap (λ (l : List Tok). statement block before (l ++ end)) p.is ∙ ap (statement block before) (append_assoc p.front p.rest end) ∙ statement_read block s a.0 before p.front (p.rest ++ end) p.said;
      more = all_listed block all a.1 (before ++ s ∷ []) p.rest end p.others stop;
    }

-- ---- groups

pub group_is : (upsert delete : Bool) (before all : List Statement) (word opening closing : Tok) (inner rest : List Tok)
    → group_meant word ≡ Some delete → is_punct open_curly opening ≡ true → statements (record { delete = delete; upsert = upsert }) before inner ≡ Ok (all, closing ∷ rest) → is_punct close_curly closing ≡ true
    → group upsert before (word ∷ opening ∷ inner) ≡ Ok (all, rest)
unfolding group
group_is upsert delete before all word opening closing inner rest a b c d = rw (a, b, c, d) refl

-- tokens that say a group of one statement
record IsGroup (s : Statement) (ts : List Tok) : Type 0 where
  pub word : Tok
  pub opening : Tok
  pub inner : List Tok
  pub closing : Tok
  pub is : ts ≡ word ∷ opening ∷ (inner ++ closing ∷ [])
  pub named : tok_said word ≡ word_said (name_word (group_name s.delete))
  pub opened : tok_said opening ≡ word_said (mark_word open_curly)
  pub said : Say inner (statements_words (s ∷ []))
  pub closed : tok_said closing ≡ word_said (mark_word close_curly)

as_group : (s : Statement) (ts : List Tok) → Say ts (alone_words s) → IsGroup s ts
as_group s ts e =
    let a = first ts (name_word (group_name s.delete)) (mark_word open_curly ∷ (statements_words (s ∷ []) ++ mark_word close_curly ∷ [])) e in
    let b = first a.rest (mark_word open_curly) (statements_words (s ∷ []) ++ mark_word close_curly ∷ []) a.others in
    let p = parted b.rest (statements_words (s ∷ [])) (mark_word close_curly ∷ []) b.others in
    let c = first p.rest (mark_word close_curly) [] p.others in
    let end : p.rest ≡ c.tok ∷ [] = c.is ∙ ap (λ (l : List Tok). c.tok ∷ l) (none_left c.rest c.others) in
    let last : b.rest ≡ p.front ++ c.tok ∷ [] = p.is ∙ ap (λ (l : List Tok). p.front ++ l) end in
    let second : a.rest ≡ b.tok ∷ (p.front ++ c.tok ∷ []) = b.is ∙ ap (λ (l : List Tok). b.tok ∷ l) last in
    record {
      word = a.tok;
      opening = b.tok;
      inner = p.front;
      closing = c.tok;
      is = a.is ∙ ap (λ (l : List Tok). a.tok ∷ l) second;
      named = a.said;
      opened = b.said;
      said = p.said;
      closed = c.said;
    }

seam : (inner : List Tok) (closing : Tok) (rest : List Tok) → (inner ++ closing ∷ []) ++ rest ≡ inner ++ closing ∷ rest
seam inner closing rest = append_assoc inner (closing ∷ []) rest

-- tokens that say a group of one statement are read as it
alone_read : (upsert : Bool) (s : Statement) → StandsAlone upsert s → (before : List Statement) (ts rest : List Tok) → Say ts (alone_words s) → group upsert before (ts ++ rest) ≡ Ok (before ++ s ∷ [], rest)
alone_read upsert s q before ts rest e =
    let g = as_group s ts e in
    let block : Block = record { delete = s.delete; upsert = upsert } in
    let inside : statements block before (g.inner ++ g.closing ∷ rest) ≡ Ok (before ++ s ∷ [], g.closing ∷ rest) =
    (statements_listed block before (s ∷ []) (g.inner ++ g.closing ∷ rest) (g.closing ∷ rest)).1 (all_listed block (s ∷ []) (q, tt) before g.inner (g.closing ∷ rest) g.said (no_statement g.closing rest g.closed)) in
    ap (λ (l : List Tok). group upsert before (l ++ rest)) g.is
    ∙ ap (λ (l : List Tok). group upsert before (g.word ∷ g.opening ∷ l)) (seam g.inner g.closing rest)
    ∙ group_is upsert s.delete before (before ++ s ∷ []) g.word g.opening g.closing (g.inner ++ g.closing ∷ rest) rest
    (says_group s.delete g.word g.named) (opens g.opening g.opened) inside (closes g.closing g.closed)

-- and begin one
alone_begins : (s : Statement) (ts rest : List Tok) → Say ts (alone_words s) → begins_group (ts ++ rest) ≡ true
alone_begins s ts rest e =
    let a = first ts (name_word (group_name s.delete)) (mark_word open_curly ∷ (statements_words (s ∷ []) ++ mark_word close_curly ∷ [])) e in
    ap (λ (l : List Tok). begins_group (l ++ rest)) a.is ∙ ap is_some (says_group s.delete a.tok a.said)

some_of_group : (s : Statement) (ts : List Tok) → Say ts (alone_words s) → 0 < length ts
some_of_group s [] e = absurd (cc)
some_of_group s (t ∷ ts) e = omega arith

groups_listed : (upsert : Bool) (all : List Statement) → AllByRecursion (StandsAlone upsert) all → (before : List Statement) (ts end : List Tok) → Say ts (flat_map alone_words all) → begins_group end ≡ false
    → AreListed begins_group (group upsert) before all end (ts ++ end)
groups_listed upsert [] a before ts end e stop = (ap (λ (l : List Tok). l ++ end) (none_left ts e), stop)
groups_listed upsert (s ∷ all) a before ts end e stop =
    let p = parted ts (alone_words s) (flat_map alone_words all) e in
    record {
      tokens = p.front;
      rest = p.rest ++ end;
      some = some_of_group s p.front p.said;
      is = ap (λ (l : List Tok). l ++ end) p.is ∙ append_assoc p.front p.rest end;
      begun = ap (λ (l : List Tok). begins_group (l ++ end)) p.is ∙ ap begins_group (append_assoc p.front p.rest end) ∙ alone_begins s p.front (p.rest ++ end) p.said;
      read = ap (λ (l : List Tok). group upsert before (l ++ end)) p.is ∙ ap (group upsert before) (append_assoc p.front p.rest end) ∙ alone_read upsert s a.0 before p.front (p.rest ++ end) p.said;
      more = groups_listed upsert all a.1 (before ++ s ∷ []) p.rest end p.others stop;
    }

pub groups_is : (upsert : Bool) (all : List Statement) (opening closing : Tok) (inner rest : List Tok)
    → is_punct open_curly opening ≡ true → repeated begins_group (group upsert) [] inner ≡ Ok (all, closing ∷ rest) → is_punct close_curly closing ≡ true → groups upsert (opening ∷ inner) ≡ Ok (all, rest)
unfolding groups
groups_is upsert all opening closing inner rest a b c = rw (a, b, c) refl

-- tokens that say the words of statements in groups are read as these
pub groups_read : (upsert : Bool) (all : List Statement) → AllByRecursion (StandsAlone upsert) all → (ts rest : List Tok) → Say ts (groups_words all) → groups upsert (ts ++ rest) ≡ Ok (all, rest)
groups_read upsert all a ts rest e =
    let o = first ts (mark_word open_curly) (flat_map alone_words all ++ mark_word close_curly ∷ []) e in
    let p = parted o.rest (flat_map alone_words all) (mark_word close_curly ∷ []) o.others in
    let c = first p.rest (mark_word close_curly) [] p.others in
    let end : p.rest ≡ c.tok ∷ [] = c.is ∙ ap (λ (l : List Tok). c.tok ∷ l) (none_left c.rest c.others) in
    let last : o.rest ≡ p.front ++ c.tok ∷ [] = p.is ∙ ap (λ (l : List Tok). p.front ++ l) end in
    let is : ts ≡ o.tok ∷ (p.front ++ c.tok ∷ []) = o.is ∙ ap (λ (l : List Tok). o.tok ∷ l) last in
    let inside : repeated begins_group (group upsert) [] (p.front ++ c.tok ∷ rest) ≡ Ok (all, c.tok ∷ rest) =
    listed_read begins_group (group upsert) [] all (c.tok ∷ rest) (p.front ++ c.tok ∷ rest) (groups_listed upsert all a [] p.front (c.tok ∷ rest) p.said (no_group c.tok rest c.said)) in
    ap (λ (l : List Tok). groups upsert (l ++ rest)) is
    ∙ ap (λ (l : List Tok). groups upsert (o.tok ∷ l)) (seam p.front c.tok rest)
    ∙ groups_is upsert all o.tok c.tok (p.front ++ c.tok ∷ rest) rest (opens o.tok o.said) inside (closes c.tok c.said)

-- they begin with {
pub opens_next : (ts : List Tok) (all : List Statement) → Say ts (groups_words all) → next (is_punct open_curly) ts ≡ true
opens_next ts all e =
    let o = first ts (mark_word open_curly) (flat_map alone_words all ++ mark_word close_curly ∷ []) e in
    ap (λ (l : List Tok). next (is_punct open_curly) l) o.is ∙ opens o.tok o.said

-- those of statements alone do not
pub opens_none : (ts : List Tok) (all : List Statement) → Say ts (statements_words all) → next (is_punct open_curly) ts ≡ false
opens_none ts [] e = ap (λ (l : List Tok). next (is_punct open_curly) l) (none_left ts e)
opens_none ts (s ∷ all) e =
    let p = parted ts (statement_words s) (statements_words all) e in
    ap (λ (l : List Tok). next (is_punct open_curly) l) p.is ∙ by s.s p.front p.said
  where
    by : (n : Node) (front : List Tok) → Say front (node_words n ++ (iri_word s.p ∷ (object_words s.o ++ mark_word 46 ∷ []))) → next (is_punct open_curly) (front ++ (parted ts (statement_words s) (statements_words all) e).rest) ≡ false
    by (nodes.Uid n) [] f = absurd (cc)
    by (nodes.Blank name) [] f = absurd (cc)
    by (nodes.Var name) [] f = absurd (cc)
    by (nodes.Uid n) (t ∷ front) f = ap (λ (s : Said). is_punct open_curly (kind_tok t s)) (ap (first_or (tok_said t)) f)
    by (nodes.Blank name) (t ∷ front) f = ap (λ (s : Said). is_punct open_curly (kind_tok t s)) (ap (first_or (tok_said t)) f)
    by (nodes.Var name) (t ∷ front) f = ap (λ (s : Said). is_punct open_curly (kind_tok t s)) (ap (first_or (tok_said t)) f)
