-- What a comparison of two states tells.
use Rattle.std.proofs.Common.{◌≡◌, ◌≢◌, Bool, true, false, sym, ◌∙◌, rules}
use denote.Enum.Bare.{sameb, same_true, same_false}
use Rattle.sk_ranges.specs.declared.state.State.{State}
use Rattle.sk_ranges.specs.contracts.state.State.{the_type}

pub states_same : (a b : State) (t : Bool) → t ≡ sameb the_type a b → t ≡ true → a ≡ b
states_same a b t e is = same_true the_type (search rules) a b (sym e ∙ is)

pub states_differ : (a b : State) (t : Bool) → t ≡ sameb the_type a b → t ≡ false → a ≢ b
states_differ a b t e is = same_false the_type a b (sym e ∙ is)
