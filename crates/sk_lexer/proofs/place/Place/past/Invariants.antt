use Rattle.std.proofs.Common.{◌≡◌, ◌+◌, ◌≤◌, take}
use Rattle.std.specs.Prelude.{fold}
use Rattle.sk_lexer.specs.Places.{place_then}
use Rattle.sk_lexer.proofs.place.Place.past.Given as goal

abbrev pub invariant-loop-byte : goal.invariant-loop-byte
invariant-loop-byte l =
    (l.place.at ≡ l.fn.self.at + l.byte-index) × (l.place.line ≤ l.fn.self.line + l.byte-index) × (l.place ≡ fold place_then l.fn.self (take l.byte-index l.bytes))
