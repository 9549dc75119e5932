-- Groups that stand one after the other, each with its statements.
use Rattle.std.specs.Prelude.{◌≡◌, Bool, true, false, List, [], ◌∷◌, ◌++◌, Some, flat_map}
use Rattle.dg_text.specs.Listed.{AreListed}
use Rattle.dg_text.specs.Marks.{open_curly, close_curly}
use Rattle.dg_text.specs.Tokens.{Tok, is_punct}
use Rattle.dg_nquad.specs.declared.mutation.Statement.{Statement}
use Rattle.dg_nquad.specs.Grammar.{statement, begins_statement, begins_group}
use Rattle.dg_nquad.specs.Words.{group_meant}

-- The first group of what is left: a word that says whether it deletes, `{`, its statements one after the other, behind
-- those before them, and `}`; and what holds of the rest.
pub record HasGroup (upsert : Bool) (before all : List Statement) (left : List Tok) (More : List Tok → Type 0) : Type 0 where
  pub delete : Bool
  pub word : Tok
  pub opening : Tok
  pub inner : List Tok
  pub closing : Tok
  pub rest : List Tok
  pub is : left ≡ word ∷ opening ∷ inner
  pub named : group_meant word ≡ Some delete
  pub opens : is_punct open_curly opening ≡ true
  pub listed : AreListed begins_statement (statement (record { delete = delete; upsert = upsert })) before all (closing ∷ rest) inner
  pub closes : is_punct close_curly closing ≡ true
  pub more : More rest

-- groups stand one after the other in what is left, behind the statements before them, up to an end where none begins
abbrev pub AreGrouped : Bool → List Statement → List (List Statement) → List Tok → List Tok → Type 0
AreGrouped upsert before [] end left = (left ≡ end) × (begins_group end ≡ false)
AreGrouped upsert before (all ∷ more) end left = HasGroup upsert before all left (AreGrouped upsert (before ++ all) more end)

-- `{`, groups one after the other, of which these are all the statements, `}`, and the rest
pub record IsGrouped (upsert : Bool) (all : List Statement) (left rest : List Tok) : Type 0 where
  pub groups : List (List Statement)
  pub opening : Tok
  pub inner : List Tok
  pub closing : Tok
  pub is : left ≡ opening ∷ inner
  pub opens : is_punct open_curly opening ≡ true
  pub are : AreGrouped upsert [] groups (closing ∷ rest) inner
  pub closes : is_punct close_curly closing ≡ true
  pub every : all ≡ flat_map (λ all. all) groups
