-- Hexadecimal digits, at a place of a text.
use Rattle.std.proofs.Common.{◌≡◌, ℕ, zero, suc, ◌+◌, ◌-◌, ◌≤◌, ◌<◌, true, false, List, ◌∷◌, length, drop, get_or, Option, Some, None, refl, sym, ap, subst, ◌∙◌, arith}
use Rattle.std.specs.List.{prefix_len}
use Rattle.std.proofs.lemmas.List.Sums.{prefix_len_passes}
use Rattle.std.proofs.lemmas.List.{drop_more, drop_all, get_or-drop}
use Rattle.std.proofs.lemmas.Grind.{common_steps}
use Rattle.std.specs.Char.{is_ascii_hexdigit}
use Rattle.dg_text.specs.Escapes.{hex_more, hex_number}

hex_one : (n so_far b : ℕ) (rest : List ℕ) → is_ascii_hexdigit b ≡ true → hex_number (suc n) so_far (b ∷ rest) ≡ hex_number n (hex_more so_far b) rest
unfolding hex_number
hex_one n so_far b rest h = rw h refl

-- one digit more
pub hex_yes : (count i so_far at : ℕ) (bytes : List ℕ) → i < count → at < length bytes → is_ascii_hexdigit (get_or bytes at 0) ≡ true
    → hex_number (count - i) so_far (drop at bytes) ≡ hex_number (count - (i + 1)) (hex_more so_far (get_or bytes at 0)) (drop (at + 1) bytes)
hex_yes count i so_far at bytes lt le h =
    let k : count - i ≡ suc (count - (i + 1)) = omega arith in
    ap (λ n. hex_number n so_far (drop at bytes)) k ∙ ap (hex_number (suc (count - (i + 1))) so_far) (drop_more bytes at 0 le) ∙ hex_one (count - (i + 1)) so_far (get_or bytes at 0) (drop (at + 1) bytes) h

hex_none : (n so_far b : ℕ) (rest : List ℕ) → is_ascii_hexdigit b ≡ false → hex_number (suc n) so_far (b ∷ rest) ≡ None
unfolding hex_number
hex_none n so_far b rest h = rw h refl

pub hex_no : (count i so_far at : ℕ) (bytes : List ℕ) → i < count → at < length bytes → is_ascii_hexdigit (get_or bytes at 0) ≡ false → hex_number (count - i) so_far (drop at bytes) ≡ None
hex_no count i so_far at bytes lt le h =
    let k : count - i ≡ suc (count - (i + 1)) = omega arith in
    ap (λ n. hex_number n so_far (drop at bytes)) k ∙ ap (hex_number (suc (count - (i + 1))) so_far) (drop_more bytes at 0 le) ∙ hex_none (count - (i + 1)) so_far (get_or bytes at 0) (drop (at + 1) bytes) h

pub hex_end : (count i so_far at : ℕ) (bytes : List ℕ) → i < count → length bytes ≤ at → hex_number (count - i) so_far (drop at bytes) ≡ None
unfolding hex_number
hex_end count i so_far at bytes lt le =
    let k : count - i ≡ suc (count - (i + 1)) = omega arith in
    rw (k, drop_all at bytes le) refl

pub hex_done : (count i so_far : ℕ) (text : List ℕ) → count ≤ i → hex_number (count - i) so_far text ≡ Some so_far
unfolding hex_number
hex_done count i so_far text le =
    let k : count - i ≡ zero = omega arith in
    rw k refl

-- one digit more, as a loop reads it
pub hex_goes : (count i so_far start : ℕ) (bytes : List ℕ) (total : Option ℕ) → i < count → start + i < length bytes → is_ascii_hexdigit (get_or bytes (start + i) 0) ≡ true
    → hex_number (count - i) so_far (drop (start + i) bytes) ≡ total
    → hex_number (count - (i + 1)) (hex_more so_far (get_or bytes (start + i) 0)) (drop (start + (i + 1)) bytes) ≡ total
hex_goes count i so_far start bytes total lt le h before =
    let e : start + (i + 1) ≡ start + i + 1 = omega arith in
    ap (λ at. hex_number (count - (i + 1)) (hex_more so_far (get_or bytes (start + i) 0)) (drop at bytes)) e ∙ sym (hex_yes count i so_far (start + i) bytes lt le h) ∙ before

pub hex_low : (b : ℕ) → is_ascii_hexdigit b ≡ true → b < 128
hex_low b h = grind (arith, common_steps)

-- a byte of a run of hexadecimal digits
pub hex_at : (bytes : List ℕ) (start i : ℕ) → i < prefix_len is_ascii_hexdigit (drop start bytes) → get_or bytes (start + i) 0 < 128
hex_at bytes start i h =
    let P : ℕ → Type 0 = λ b. is_ascii_hexdigit b ≡ true in
    hex_low (get_or bytes (start + i) 0) (subst P (get_or-drop start bytes i 0) (prefix_len_passes is_ascii_hexdigit (drop start bytes) i 0 h))
