use Rattle.std.proofs.Common.{◌≡◌, ◌++◌, [], drop}
use Rattle.sk_scheme.specs.Scheme.{known_after, codes_after, signatures_after, known_functions, codes_of, signatures_of}
use Rattle.sk_emitter.proofs.functions.compile_all.Given as goal

-- what is made so far and what is left are the whole
abbrev pub invariant-loop-i : goal.invariant-loop-i
invariant-loop-i l =
    (l.made.names.scope ≡ [])
    × (known_after l.i l.made.names.functions (drop l.i l.functions) ≡ known_functions l.functions)
    × (l.made.codes ++ codes_after l.i l.made.names.functions (drop l.i l.functions) ≡ codes_of l.functions)
    × (l.made.signatures ++ signatures_after l.i l.made.names.functions (drop l.i l.functions) ≡ signatures_of l.functions)
