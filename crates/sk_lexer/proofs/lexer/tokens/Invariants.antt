use Rattle.std.proofs.Common.{◌≡◌, ◌-◌, length, take}
use Rattle.sk_lexer.specs.Places.{place_after}
use Rattle.sk_token_laws.proofs.Progress.{HasLexed}
use Rattle.sk_lexer.proofs.lexer.tokens.Given as goal

abbrev pub invariant-loop-place : goal.invariant-loop-place
invariant-loop-place l = (HasLexed l.text l.place.at l.tokens.items) × (l.place ≡ place_after (take l.place.at l.text))

abbrev pub decreases-loop-place : goal.decreases-loop-place
decreases-loop-place l = length l.text - l.place.at
