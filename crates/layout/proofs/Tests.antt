-- Tests one after another, as `&&` and `||` make them: r is what the first answered, and v what both did.
use Rattle.std.proofs.Common.{◌≡◌, Bool, true, false, ◌&&◌, ◌||◌, sym, ap, ◌∙◌}

module _ {a r v : Bool} (is : r ≡ a) where
  pub goes_on : {b : Bool} → r ≡ true → v ≡ b → v ≡ (a && b)
  goes_on {b} passed rest = rest ∙ ap (λ x. x && b) (sym passed ∙ is)

  pub stops : (b : Bool) → r ≡ false → v ≡ r → v ≡ (a && b)
  stops b failed rest = rest ∙ failed ∙ ap (λ x. x && b) (sym failed ∙ is)

  pub otherwise : {b : Bool} → r ≡ false → v ≡ b → v ≡ (a || b)
  otherwise {b} failed rest = rest ∙ ap (λ x. x || b) (sym failed ∙ is)
