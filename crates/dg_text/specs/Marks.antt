-- The bytes that stand alone as tokens.
use Rattle.std.specs.Prelude.{ℕ}

-- the byte of `(`
abbrev pub open_round : ℕ
open_round = 40

-- the byte of `)`
abbrev pub close_round : ℕ
close_round = 41

-- the byte of `*`
abbrev pub star : ℕ
star = 42

-- the byte of `,`
abbrev pub comma : ℕ
comma = 44

-- the byte of `.`
abbrev pub dot : ℕ
dot = 46

-- the byte of `:`
abbrev pub colon : ℕ
colon = 58

-- the byte of `[`
abbrev pub open_square : ℕ
open_square = 91

-- the byte of `]`
abbrev pub close_square : ℕ
close_square = 93

-- the byte of `{`
abbrev pub open_curly : ℕ
open_curly = 123

-- the byte of `}`
abbrev pub close_curly : ℕ
close_curly = 125

-- the byte of `~`
abbrev pub tilde : ℕ
tilde = 126
