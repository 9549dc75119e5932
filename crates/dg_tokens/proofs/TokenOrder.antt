-- The orders of tokenizers and of tokens are total, and equal by them are only the same.
use Rattle.std.proofs.Common.{◌≡◌, ℕ, zero, suc, refl, sym, ap, ◌∙◌}
use Rattle.std.specs.Ordering.{nat_cmp}
use Rattle.dg_values.specs.Order.{IsOrder, value_cmp, tokenizer_rank, tokenizer_cmp}
use Rattle.dg_values.specs.declared.kind.Tokenizer.{Tokenizer}
use Rattle.dg_values.specs.declared.kind.Tokenizer.TheVariants as tokenizers
use Rattle.dg_values.proofs.OrderLaws.{value_order}
use Rattle.dg_sets.proofs.MadeOrders.{nat_order, then_order, by_order}
use Rattle.dg_tokens.specs.declared.tokens.IndexToken.{IndexToken}
use Rattle.dg_tokens.specs.Orders.{index_token_cmp}

-- the tokenizer at a place among the tokenizers
tokenizer_at : ℕ → Tokenizer
tokenizer_at zero = tokenizers.Exact
tokenizer_at (suc zero) = tokenizers.Hash
tokenizer_at (suc (suc zero)) = tokenizers.Term
tokenizer_at (suc (suc (suc zero))) = tokenizers.Trigram
tokenizer_at (suc (suc (suc (suc zero)))) = tokenizers.Int
tokenizer_at (suc (suc (suc (suc (suc zero))))) = tokenizers.Bool
tokenizer_at (suc (suc (suc (suc (suc (suc zero)))))) = tokenizers.Year
tokenizer_at (suc (suc (suc (suc (suc (suc (suc zero))))))) = tokenizers.Month
tokenizer_at (suc (suc (suc (suc (suc (suc (suc (suc zero)))))))) = tokenizers.Day
tokenizer_at (suc (suc (suc (suc (suc (suc (suc (suc (suc n))))))))) = tokenizers.Hour

at_rank : (t : Tokenizer) → tokenizer_at (tokenizer_rank t) ≡ t
unfolding tokenizer_at
at_rank tokenizers.Exact = refl
at_rank tokenizers.Hash = refl
at_rank tokenizers.Term = refl
at_rank tokenizers.Trigram = refl
at_rank tokenizers.Int = refl
at_rank tokenizers.Bool = refl
at_rank tokenizers.Year = refl
at_rank tokenizers.Month = refl
at_rank tokenizers.Day = refl
at_rank tokenizers.Hour = refl

-- the order of tokenizers
pub tokenizer_order : IsOrder tokenizer_cmp
tokenizer_order = by_order tokenizer_rank nat_cmp nat_order (λ a b e. sym (at_rank a) ∙ (ap tokenizer_at e ∙ at_rank b))

-- the order of tokens
pub index_token_order : IsOrder index_token_cmp
index_token_order = then_order (λ (t : IndexToken). t.tokenizer) (λ (t : IndexToken). t.value) tokenizer_cmp value_cmp tokenizer_order value_order (λ x y p q i. record { tokenizer = p i; value = q i })
