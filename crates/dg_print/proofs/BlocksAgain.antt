-- Blocks and queries are read again.
use Rattle.std.proofs.Common.{◌≡◌, ℕ, suc, ◌<◌, ◌==◌, Bool, true, false, ◌||◌, List, [], ◌∷◌, ◌++◌, flat_map, length, ap, refl, sym, ◌∙◌, subst, arith, length-append}
use Rattle.std.specs.Prelude.{Option, Some, None, Ok, is_some, not, ◌&&◌, codes}
use Rattle.std.proofs.lemmas.Bool.{false≢true}
use Rattle.dg_text.specs.Cases.{Left, optional, repeated}
use Rattle.dg_text.specs.Marks.{open_round, close_round, open_curly, close_curly, comma, colon}
use Rattle.dg_text.specs.Reading.{next}
use Rattle.dg_text.specs.Tokens.{Tok, is_name, is_punct, is_word}
use Rattle.dg_text.specs.Words.{name_meant}
use Rattle.dg_parse.specs.declared.blocks.Head.{Head}
use Rattle.dg_parse.specs.declared.directives.Marks.{Marks}
use Rattle.dg_parse.specs.declared.directives.Owner.{Owner}
use Rattle.dg_parse.specs.declared.items.Around.{Around}
use Rattle.dg_parse.specs.declared.query.QArg.{QArg}
use Rattle.dg_parse.specs.declared.query.QBlock.{QBlock}
use Rattle.dg_parse.specs.declared.query.QDir.{QDir}
use Rattle.dg_parse.specs.declared.query.QFunc.{QFunc}
use Rattle.dg_parse.specs.declared.query.Query.{Query}
use Rattle.dg_parse.specs.Arguments.{more_args}
use Rattle.dg_parse.specs.Directives.{all_dirs, unmarked}
use Rattle.dg_parse.specs.Fields.{fields}
use Rattle.dg_parse.specs.Grammar.{root_part, no_root, is_second, head, block, braced_blocks, query}
use Rattle.dg_parse.specs.Names.{Defined, variable, any_variable}
use Rattle.dg_print.specs.Printed.{in_round, arg_words, dir_words, func_words}
use Rattle.dg_print.specs.PrintedQuery.{var_words, field_words, root_words, block_words, query_words}
use Rattle.dg_text.specs.Spelling.{name_word, mark_word}
use Rattle.dg_text.specs.Written.{Word, IsWord}
use Rattle.dg_print.proofs.Again.{Each, Reads, AreWords, bind, gives, weaker, either, at_skip, at_also, at_here, at_one, some_took, words_append, never, at, on, tok_from, behind, on_append}
use Rattle.dg_print.proofs.ArgumentsAgain.{AreArgs, at_more_args, more_args_read}
use Rattle.dg_print.proofs.DirectivesAgain.{AreDirs, at_dirs, SameOwner, DirsAgain, ReadDirs, dirs_read}
use Rattle.dg_print.proofs.FieldWords.{IsAnyName, AreFields}
use Rattle.dg_print.proofs.FieldsAgain.{ends_fields, fields_read}
use Rattle.dg_print.proofs.LiteralsAgain.{is_comma}
use Rattle.dg_print.proofs.FieldsRead.{IsVar, at_any_variable, at_fields}
use Rattle.dg_print.proofs.FixedWords.{fixed, sign}
use Rattle.dg_print.proofs.FunctionsAgain.{IsFuncAt, at_func, func_reads}
use Rattle.dg_print.proofs.Lists.{Added, Items, Repeats, at_repeated, repeated_reads, or_first, or_second}
use Rattle.dg_print.proofs.NamesAgain.{took_name}

-- ---- what is read

-- what stands in the brackets of a block can be written
abbrev pub IsRoot : Option QFunc → List QArg → Type 0
IsRoot None args = args ≡ []
IsRoot (Some f) args = IsFuncAt true f × AreArgs args

at_root : (left : Left) → Each left (optional (next (is_word (codes "func"))) root_part no_root left) (λ r l. IsRoot r.func r.args)
unfolding root_part
at_root left = either (next (is_word (codes "func")) left.tokens)
    (λ e. bind _ (at_skip (is_word (codes "func")) left)
    (λ _ l. bind _ (at_skip (is_punct colon) l)
    (λ _ k. bind _ (at_func true k)
    (λ f m. bind _ (at_more_args m)
    (λ args n. gives (record { func = Some f; args = args }) n (λ ha hf _ _. (hf, ha)))))))
    (λ e. gives no_root left refl)

-- what owns the directives of a block
abbrev pub block_owner : Bool → ℕ → Owner
block_owner has_func as_place = record { block = true; has_func = has_func; recurse = false; as_place = as_place }

-- what stands in front of a block's directives
pub record IsHead (before : List QBlock) (h : Head) : Type 0 where
  pub var : IsAnyName h.var
  pub var_fits : (is_some h.var && not (is_some h.root.func)) ≡ false
  pub as_place : h.as_place ≡ 0 → is_some h.var ≡ false
  pub name : IsWord (name_word h.name)
  pub new : is_second before h.name ≡ false
  pub root : IsRoot h.root.func h.root.args

var_fits : (v : Defined) (test : Bool) → IsVar v → (0 < v.1 → (is_some v.0 && test) ≡ false) → (is_some v.0 && test) ≡ false
var_fits (None, n) test v e = refl
var_fits (Some x, n) test v e = e (v.some refl)

zero_var : (v : Defined) → IsVar v → v.1 ≡ 0 → is_some v.0 ≡ false
zero_var (None, n) v e = refl
zero_var (Some x, n) v e = absurd (let lt : 0 < n = v.some refl in omega (arith, lt, e))

at_head : (before : List QBlock) (left : Left) → Each left (head before left) (λ h l. IsHead before h)
unfolding head
at_head before left =
    bind _ (at_any_variable left)
    (λ v l. bind _ (at_here l)
    (λ place k. bind _ (at_one name_meant k)
    (λ n m. bind _ (at_also place (is_second before n) m)
    (λ _ p. bind _ (at_skip (is_punct open_round) p)
    (λ _ q. bind _ (at_root q)
    (λ r s. bind _ (at_skip (is_punct close_round) s)
    (λ _ t. bind _ (at_also v.1 (is_some v.0 && not (is_some r.func)) t)
    (λ _ u. gives (record { var = v.0; as_place = v.1; name = n; root = r }) u (λ var _ hr _ also took here hv. record {
      var = hv.word;
      var_fits = var_fits v (not (is_some r.func)) hv var.0;
      as_place = zero_var v hv;
      name = took_name took;
      new = also.0 (subst (λ (n : ℕ). 0 < n) (sym here) (some_took took));
      root = hr;
    })))))))))

-- what is around the fields of a block
abbrev pub around : Bool → Marks → Around
around has_func m = record { has_func = has_func; recurse = not (m.recursed == 0) }

-- a block can stand behind others
pub record IsBlock (before : List QBlock) (b : QBlock) : Type 0 where
  pub var : IsAnyName b.var
  pub var_fits : (is_some b.var && not (is_some b.func)) ≡ false
  pub name : IsWord (name_word b.name)
  pub new : is_second before b.name ≡ false
  pub root : IsRoot b.func b.args
  pub as_place : ℕ
  pub placed : as_place ≡ 0 → is_some b.var ≡ false
  pub marks : Marks
  pub dirs_are : AreDirs (block_owner (is_some b.func) as_place) unmarked marks
  pub dirs_is : marks.dirs ≡ b.dirs
  pub fields_are : AreFields (around (is_some b.func) marks) 33 b.fields

at_block : (before : List QBlock) (left : Left) → Each left (block before left) (λ all l. Added IsBlock before all)
unfolding block
at_block before left =
    bind _ (at_head before left)
    (λ h l. bind _ (at_dirs (block_owner (is_some h.root.func) h.as_place) l)
    (λ m k. bind _ (at_skip (is_punct open_curly) k)
    (λ _ n. bind _ (at_fields (around (is_some h.root.func) m) 33 n)
    (λ fs p. bind _ (at_skip (is_punct close_curly) p)
    (λ _ q. gives _ q (λ _ hf _ hd hh. record {
      item = record { var = h.var; name = h.name; func = h.root.func; args = h.root.args; dirs = m.dirs; fields = fs };
      is = refl;
      good = record {
        var = hh.var;
        var_fits = hh.var_fits;
        name = hh.name;
        new = hh.new;
        root = hh.root;
        as_place = h.as_place;
        placed = hh.as_place;
        marks = m;
        dirs_are = hd;
        dirs_is = refl;
        fields_are = hf;
      };
    }))))))

-- blocks that can be written
abbrev pub AreBlocks : List QBlock → Type 0
AreBlocks all = Items IsBlock [] all

pub at_braced_blocks : (left : Left) → Each left (braced_blocks left) (λ q l. AreBlocks q.blocks)
unfolding braced_blocks
at_braced_blocks left =
    bind _ (at_skip (is_punct open_curly) left)
    (λ _ l. bind _ (at_repeated (next is_name) block IsBlock at_block [] l)
    (λ all k. bind _ (at_skip (is_punct close_curly) k)
    (λ _ m. gives (record { blocks = all }) m (λ _ a _. subst (λ (bs : List QBlock). AreBlocks bs) (sym a.is) a.good))))

pub at_query : (left : Left) → Each left (query left) (λ q l. AreBlocks q.blocks)
unfolding query
at_query left =
    bind {X = λ _ _. Unit {0}} _ (either (next (is_word (codes "query")) left.tokens) (λ e. weaker (at_skip (is_word (codes "query")) left) (λ _ _ _. tt)) (λ e. gives tt left tt))
    (λ _ l. weaker (at_braced_blocks l) (λ q k h _. h))

-- ---- what is written is read again

-- more of what stands in the brackets of a block
abbrev bars_root : List Tok → Bool
bars_root l = next (is_word (codes "func")) l || is_comma l

root_reads : (fn : Option QFunc) (args : List QArg) → IsRoot fn args → Reads (optional (next (is_word (codes "func"))) root_part no_root) (record { func = fn; args = args }) (root_words fn args) bars_root
unfolding root_part
root_reads None args h = record {
  words = tt;
  again = λ f rest e. rw (or_first (next (is_word (codes "func")) rest) (is_comma rest) e) (ap (λ (l : List QArg). Ok (record { func = None; args = l }, at rest)) (sym h));
}
root_reads (Some fn) args h =
    let ws : List Word = flat_map (λ a. mark_word comma ∷ arg_words a) args in
    let more : Reads (more_args []) args ws is_comma = more_args_read [] args h.1 in
    record {
      words = (fixed (codes "func") refl, (sign 58 refl, words_append (func_words fn) ws (func_reads true fn h.0).words more.words));
      again = λ f rest e.
          let g : ℕ → ℕ = λ n. f (suc (suc n)) in
          rw (
            on_append g (func_words fn) ws rest,
            (func_reads true fn h.0).again g (on (behind g (func_words fn)) ws rest) refl,
            more.again (behind g (func_words fn)) rest (or_second (next (is_word (codes "func")) rest) (is_comma rest) e),
          ) refl;
    }

-- what stands in front of the directives is read again
record HeadAgain (before : List QBlock) (b : QBlock) (all tokens : List Tok) : Type 0 where
  pub as_place : ℕ
  pub is : head before (at all) ≡ Ok (record { var = b.var; as_place = as_place; name = b.name; root = record { func = b.func; args = b.args } }, at tokens)
  pub placed : is_some b.var ≡ false → as_place ≡ 0

head_again : (before : List QBlock) (b : QBlock) → IsBlock before b → (f f1 f2 : ℕ → ℕ) (end : ℕ) (tokens : List Tok)
    → HeadAgain before b (on f (var_words b.var) (tok_from (f1 0) (name_word b.name) ∷ tok_from (f1 1) (mark_word open_round) ∷ on f2 (root_words b.func b.args) (tok_from end (mark_word close_round) ∷ tokens))) tokens
unfolding head any_variable variable
head_again before b h f f1 f2 end tokens = by b.var refl
  where
    read : optional (next (is_word (codes "func"))) root_part no_root (at (on f2 (root_words b.func b.args) (tok_from end (mark_word close_round) ∷ tokens))) ≡ Ok (record { func = b.func; args = b.args }, at (tok_from end (mark_word close_round) ∷ tokens))
    read = (root_reads b.func b.args h.root).again f2 (tok_from end (mark_word close_round) ∷ tokens) refl

    by : (var : Option (List ℕ)) → b.var ≡ var → HeadAgain before b (on f (var_words b.var) (tok_from (f1 0) (name_word b.name) ∷ tok_from (f1 1) (mark_word open_round) ∷ on f2 (root_words b.func b.args) (tok_from end (mark_word close_round) ∷ tokens))) tokens
    by None e = record { as_place = 0; is = rw (e, h.new, read) refl; placed = λ _. refl }
    by (Some x) e =
        let fits : (true && not (is_some b.func)) ≡ false = ap (λ (v : Option (List ℕ)). is_some v && not (is_some b.func)) (sym e) ∙ h.var_fits in
        record {
          as_place = suc (suc (suc (length (on f2 (root_words b.func b.args) (tok_from end (mark_word close_round) ∷ tokens)))));
          is = rw (e, h.new, read, fits) refl;
          placed = λ n. absurd (false≢true (sym n ∙ ap is_some e));
        }

-- what stands behind the brackets of a block
abbrev behind_head : QBlock → List Word
behind_head b = flat_map dir_words b.dirs ++ mark_word open_curly ∷ (flat_map field_words b.fields ++ mark_word close_curly ∷ [])

any_var_words : (var : Option (List ℕ)) → IsAnyName var → AreWords (var_words var)
any_var_words None h = tt
any_var_words (Some x) h = (h, (fixed (codes "as") refl, tt))

block_reads : (before : List QBlock) (b : QBlock) → IsBlock before b → Reads (block before) (before ++ b ∷ []) (block_words b) never
unfolding block
block_reads before b h =
    let root : List Word = root_words b.func b.args in
    let inner : List Word = flat_map field_words b.fields in
    let dirs : List Word = flat_map dir_words b.dirs in
    let fs : Reads (fields (around (is_some b.func) h.marks) 33) b.fields inner ends_fields = fields_read (around (is_some b.func) h.marks) 33 b.fields h.fields_are in
    let dirs_are : ReadDirs (block_owner (is_some b.func) h.as_place) h.marks = dirs_read (block_owner (is_some b.func) h.as_place) h.marks h.dirs_are in
    let dirs_words : AreWords dirs = subst (λ (l : List QDir). AreWords (flat_map dir_words l)) h.dirs_is dirs_are.words in
    record {
      words =
          words_append (var_words b.var) _ (any_var_words b.var h.var) (
            h.name,
            (
              sign 40 refl,
              words_append (root ++ mark_word 41 ∷ []) (behind_head b)
                  (words_append root (mark_word 41 ∷ []) (root_reads b.func b.args h.root).words (sign 41 refl, tt))
                  (words_append dirs (mark_word 123 ∷ (inner ++ mark_word 125 ∷ [])) dirs_words (sign 123 refl, words_append inner (mark_word 125 ∷ []) fs.words (sign 125 refl, tt))),
            ),
          );
      again = λ f rest _.
          let f1 : ℕ → ℕ = behind f (var_words b.var) in
          let f2 : ℕ → ℕ = λ n. f1 (suc (suc n)) in
          let f3 : ℕ → ℕ = behind f2 (root ++ mark_word 41 ∷ []) in
          let f4 : ℕ → ℕ = behind f2 root in
          let f5 : ℕ → ℕ = behind f3 dirs in
          let f6 : ℕ → ℕ = λ n. f5 (suc n) in
          let f7 : ℕ → ℕ = behind f6 inner in
          let last : List Tok = on f7 (mark_word 125 ∷ []) rest in
          let t5 : List Tok = tok_from (f5 0) (mark_word 123) ∷ on f6 inner last in
          let t3 : List Tok = on f3 dirs t5 in
          let split3 : on f3 (behind_head b) rest ≡ t3 =
          on_append f3 dirs (mark_word 123 ∷ (inner ++ mark_word 125 ∷ [])) rest ∙ ap (λ l. on f3 dirs (tok_from (f5 0) (mark_word 123) ∷ l)) (on_append f6 inner (mark_word 125 ∷ []) rest) in
          let split : on f (block_words b) rest ≡ on f (var_words b.var) (tok_from (f1 0) (name_word b.name) ∷ tok_from (f1 1) (mark_word 40) ∷ on f2 root (tok_from (f4 0) (mark_word 41) ∷ t3)) =
          on_append f (var_words b.var) (name_word b.name ∷ mark_word 40 ∷ ((root ++ mark_word 41 ∷ []) ++ behind_head b)) rest
          ∙ ap (λ l. on f (var_words b.var) (tok_from (f1 0) (name_word b.name) ∷ tok_from (f1 1) (mark_word 40) ∷ l))
          (on_append f2 (root ++ mark_word 41 ∷ []) (behind_head b) rest ∙ on_append f2 root (mark_word 41 ∷ []) (on f3 (behind_head b) rest) ∙ ap (λ l. on f2 root (tok_from (f4 0) (mark_word 41) ∷ l)) split3) in
          let hd : HeadAgain before b (on f (var_words b.var) (tok_from (f1 0) (name_word b.name) ∷ tok_from (f1 1) (mark_word 40) ∷ on f2 root (tok_from (f4 0) (mark_word 41) ∷ t3))) t3 =
          head_again before b h f f1 f2 (f4 0) t3 in
          let owner : Owner = block_owner (is_some b.func) hd.as_place in
          let same_owner : SameOwner (block_owner (is_some b.func) h.as_place) owner = record { block = refl; has_func = refl; recurse = refl; as_place = λ z. hd.placed (h.placed z) } in
          let again : DirsAgain owner h.marks (on f3 (flat_map dir_words h.marks.dirs) t5) t5 = dirs_are.again owner same_owner f3 t5 refl in
          let read : all_dirs owner (at t3) ≡ Ok (again.after, at t5) = subst (λ (l : List QDir). all_dirs owner (at (on f3 (flat_map dir_words l) t5)) ≡ Ok (again.after, at t5)) h.dirs_is again.is in
          let same : again.after.dirs ≡ b.dirs = again.same.dirs ∙ h.dirs_is in
          ap (λ l. block before (at l)) split
          ∙ rw (hd.is, read, again.same.recursed, fs.again f6 last refl)
          (ap (λ (l : List QDir). Ok (before ++ record { var = b.var; name = b.name; func = b.func; args = b.args; dirs = l; fields = b.fields } ∷ [], at rest)) same);
    }

block_begins : (b : QBlock) (f : ℕ → ℕ) (rest : List Tok) → next is_name (on f (block_words b) rest) ≡ true
block_begins b f rest = by b.var refl
  where
    by : (var : Option (List ℕ)) → b.var ≡ var → next is_name (on f (block_words b) rest) ≡ true
    by None e = rw e refl
    by (Some x) e = rw e refl

blocks_repeat : Repeats (next is_name) block IsBlock block_words never
blocks_repeat = record {
  reads = block_reads;
  begun = λ before b h f rest. block_begins b f rest;
  clear = λ before b h f rest. refl;
  some = λ before b h. omega (arith, length-append (var_words b.var) (name_word b.name ∷ (in_round (root_words b.func b.args) ++ behind_head b)));
}

pub braced_blocks_read : (q : Query) → AreBlocks q.blocks → Reads braced_blocks q (query_words q) never
unfolding braced_blocks
braced_blocks_read q h =
    let inner : List Word = flat_map block_words q.blocks in
    let all : Reads (repeated (next is_name) block []) q.blocks inner (λ l. next is_name l || never l) = repeated_reads (next is_name) block IsBlock block_words never blocks_repeat [] q.blocks h in
    record {
      words = (sign 123 refl, words_append inner (mark_word 125 ∷ []) all.words (sign 125 refl, tt));
      again = λ f rest e.
          let g : ℕ → ℕ = λ n. f (suc n) in
          rw (on_append g inner (mark_word 125 ∷ []) rest, all.again g (on (behind g inner) (mark_word 125 ∷ []) rest) refl) refl;
    }

pub query_reads : (q : Query) → AreBlocks q.blocks → Reads query q (query_words q) never
unfolding query
query_reads q h = record {
  words = (braced_blocks_read q h).words;
  again = λ f rest e. (braced_blocks_read q h).again f rest refl;
}
