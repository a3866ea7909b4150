use Rattle.std.proofs.Common.{◌≡◌, ◌++◌, map, drop}
use Rattle.sk_words.specs.Strung.{strung}
use Rattle.sk_trace.proofs.words.put_strung.Given as goal

abbrev pub invariant-words : goal.invariant-words
invariant-words g l =
    l.out.items ++ strung l.between l.front (map g.T.Word.word (drop l.word-index l.words))
    ≡ l.initial.out.items ++ strung l.between l.initial.lead (map g.T.Word.word l.words)
