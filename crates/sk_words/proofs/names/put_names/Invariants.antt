use Rattle.std.proofs.Common.{◌≡◌, ◌++◌, [], drop, codes}
use Rattle.sk_words.specs.Strung.{strung}
use Rattle.sk_words.proofs.names.put_names.Given as goal

-- what is appended and what is left are the whole
abbrev pub invariant-loop-name : goal.invariant-loop-name
invariant-loop-name l =
    l.out.items ++ strung (codes ", ") l.lead (drop l.name-index l.names) ≡ l.initial.out.items ++ strung (codes ", ") [] l.names
