-- Lines of frames that are cut short.
use Rattle.std.specs.Prelude.{◌≡◌, ℕ, ◌≤◌, List, [], ◌∷◌, ◌++◌}
use Rattle.std.specs.Fmt.{decimal}
use Rattle.dg_wire.specs.declared.request.Request.{Request}
use Rattle.dg_wire.specs.declared.arguments.Argument.{Argument}
use Rattle.dg_wire.specs.declared.arguments.Argument.TheVariants as kinds
use Rattle.dg_wire.specs.declared.verb.Verb.{Verb}
use Rattle.dg_wire.specs.declared.verb.Verb.TheVariants as verbs
use Rattle.dg_wire.specs.Verbs.{name_of}
use Rattle.dg_wire.specs.Frames.{IsSession, IsGroup, IsName, IsRequest, line, words}

-- a front of the whole, which may be all of it
abbrev pub IsFront : List ℕ → List ℕ → Type 0
IsFront front whole = (rest : List ℕ) × (front ++ rest ≡ whole)

-- a front of something that is so
abbrev pub Begins : (List ℕ → Type 0) → List ℕ → Type 0
Begins IsSo front = (rest : List ℕ) × IsSo (front ++ rest)

-- a front of some verb's name
abbrev pub BeginsVerb : List ℕ → Type 0
BeginsVerb front = (verb : Verb) × IsFront front (name_of verb)

-- the words that an argument may be
abbrev pub IsArgument : Argument → List ℕ → Type 0
IsArgument kinds.Session word = (sid : ℕ) × IsSession sid × (word ≡ decimal sid)
IsArgument kinds.Group word = (group : ℕ) × IsGroup group × (word ≡ decimal group)
IsArgument kinds.Length word = (len : ℕ) × (len ≤ 1048576) × (word ≡ decimal len)
IsArgument kinds.Name word = IsName word

-- the arguments that a verb takes
abbrev pub takes : Verb → List Argument
takes verbs.Alter = kinds.Length ∷ []
takes verbs.Begin = kinds.Session ∷ []
takes verbs.Mutate = kinds.Session ∷ kinds.Length ∷ []
takes verbs.Upsert = kinds.Session ∷ kinds.Length ∷ []
takes verbs.Query = kinds.Session ∷ kinds.Length ∷ []
takes verbs.Commit = kinds.Session ∷ []
takes verbs.Discard = kinds.Session ∷ []
takes verbs.Line = []
takes verbs.Roll = kinds.Name ∷ []
takes verbs.RollPlan = kinds.Name ∷ []
takes verbs.RollInstall = kinds.Name ∷ []
takes verbs.MoveStart = kinds.Name ∷ kinds.Group ∷ []
takes verbs.MoveCopy = kinds.Name ∷ []
takes verbs.MoveHold = kinds.Name ∷ []
takes verbs.MoveFlip = kinds.Name ∷ []
takes verbs.MoveOff = kinds.Name ∷ []
takes verbs.State = []

-- a word for each argument
abbrev pub AreArguments : List Argument → List (List ℕ) → Type 0
AreArguments [] [] = Unit {0}
AreArguments (argument ∷ arguments) (word ∷ words) = IsArgument argument word × AreArguments arguments words
AreArguments arguments words = ⊥

-- the first words, of which the last may be cut short
abbrev pub AreFirst : List (List ℕ) → List (List ℕ) → Type 0
AreFirst (front ∷ []) (word ∷ words) = IsFront front word
AreFirst (front ∷ next ∷ fronts) (word ∷ words) = (front ≡ word) × AreFirst (next ∷ fronts) words
AreFirst fronts words = ⊥

-- the first words of these arguments
abbrev pub BeginsArguments : List Argument → List (List ℕ) → Type 0
BeginsArguments arguments fronts = (words : List (List ℕ)) × AreArguments arguments words × AreFirst fronts words

-- the first words of a request
abbrev pub BeginsWords : List (List ℕ) → Type 0
BeginsWords fronts = (request : Request) × IsRequest request × AreFirst fronts (words request)

-- a front of a request's line
abbrev pub BeginsLine : List ℕ → Type 0
BeginsLine front = (request : Request) × IsRequest request × IsFront front (line request)
