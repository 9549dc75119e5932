-- Parts of a text one after another, with commas between them.
use Rattle.std.specs.Prelude.{ℕ, Bool, true, false, List, [], ◌∷◌, ◌++◌, codes}

-- the comma before a part, where another part stands before it
abbrev pub comma_behind : Bool → List ℕ
comma_behind false = []
comma_behind true = codes ","

-- parts one after another, behind another part or none
abbrev pub parts_text : Bool → List (List ℕ) → List ℕ
parts_text wrote [] = []
parts_text wrote (part ∷ parts) = comma_behind wrote ++ (part ++ parts_text true parts)

-- whether a part stands there, once these were added
abbrev pub has_parts : Bool → List (List ℕ) → Bool
has_parts wrote [] = wrote
has_parts wrote (part ∷ parts) = true
