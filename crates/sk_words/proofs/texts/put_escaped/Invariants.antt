use Rattle.std.proofs.Common.{◌≡◌, ◌++◌, drop}
use Rattle.std.specs.List.{flat_map}
use Rattle.sk_words.specs.Escapes.{escaped}
use Rattle.sk_words.proofs.texts.put_escaped.Given as goal

-- what is appended and what is left are the whole
abbrev pub invariant-loop-byte : goal.invariant-loop-byte
invariant-loop-byte l = l.out.items ++ flat_map escaped (drop l.byte-index l.text) ≡ l.initial.out.items ++ flat_map escaped l.text
