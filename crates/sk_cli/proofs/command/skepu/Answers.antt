-- The answer is that to the words, and where they name a file, to its bytes.
use Rattle.std.proofs.Common.{rules, arith, ◌≡◌, ◌∙◌, ℕ, List, [], Option, refl, ap, sym, subst, map, string_bytes, codes, inl, inr, Err}
use Rattle.sk_outside.specs.Holding.{Contents, Tells}
use Rattle.sk_cli.specs.Answer.{Answer, HasReadFault, Run, IsAnswer, IsAnswerToBytes, Took, asked_of, refused, run_of_file}
use Rattle.sk_cli.proofs.AnswerLemmas.{bytes-status, file-answer, part-further, silent-answer, too_long-answer, usage-answer, want-further, want-with}
use Rattle.sk_cli.proofs.command.skepu.Goals as goal

pub returns-in_default-clause-answered : goal.returns-in_default-clause-answered
returns-in_default-clause-answered g c =
    let contents = (g.F.Files.holds c.args.files.now).contents in
    let usage : IsAnswer (map string_bytes c.args.words.now) contents (refused 2 (codes "usage\n")) =
    usage-answer (asked_of (map string_bytes c.args.words.now)) contents c.in_default.ensures.usage in
    let silent : Took [] (g.O.Sink.holds c.args.out.now) (g.O.Sink.holds c.args.out.now) = search rules in
    inr (inr (silent-answer (IsAnswer (map string_bytes c.args.words.now) contents) (refused 2 (codes "usage\n")) c.tell.result
    (g.O.Sink.holds c.args.out.now) (g.E.Sink.holds c.args.err.now) (g.E.Sink.holds c.tell.new.err) usage refl silent c.tell.ensures.told))

pub returns-in_default-clause-memory : goal.returns-in_default-clause-memory
returns-in_default-clause-memory g c wanting =
    let contents = (g.F.Files.holds c.args.files.now).contents in
    let reads = (g.F.Files.holds c.args.files.now).reads in
    let asked = asked_of (map string_bytes c.args.words.now) in
    let usage : IsAnswer (map string_bytes c.args.words.now) contents (refused 2 (codes "usage\n")) = usage-answer asked contents c.in_default.ensures.usage in
    let silent : Took [] (g.O.Sink.holds c.args.out.now) (g.O.Sink.holds c.args.out.now) = search rules in
    want-with asked (IsAnswer (map string_bytes c.args.words.now) contents) reads reads (g.O.Sink.holds c.args.out.now)
    (g.E.Sink.holds c.args.err.now) (g.E.Sink.holds c.tell.new.err) (refused 2 (codes "usage\n")) usage refl (0, omega arith, silent) c.tell.ensures.prefix

pub returns-in-Err-Long-clause-answered : goal.returns-in-Err-Long-clause-answered
returns-in-Err-Long-clause-answered g c =
    let contents = (g.F.Files.holds c.args.files.now).contents in
    let long : IsAnswer (map string_bytes c.args.words.now) contents (refused 1 (codes "refused long\n")) =
    too_long-answer (asked_of (map string_bytes c.args.words.now)) contents c.in-Some.name.now c.in-Some.ensures.run
    (c.in-Err-Long.ensures.long (ap Err c.in-Err-Long.field-0-is)) in
    let silent : Took [] (g.O.Sink.holds c.args.out.now) (g.O.Sink.holds c.args.out.now) = search rules in
    inr (inr (silent-answer (IsAnswer (map string_bytes c.args.words.now) contents) (refused 1 (codes "refused long\n")) c.tell-in-Err-Long.result
    (g.O.Sink.holds c.args.out.now) (g.E.Sink.holds c.args.err.now) (g.E.Sink.holds c.tell-in-Err-Long.new.err) long refl silent
    c.tell-in-Err-Long.ensures.told))

pub returns-in-Err-Long-clause-memory : goal.returns-in-Err-Long-clause-memory
returns-in-Err-Long-clause-memory g c wanting =
    let contents = (g.F.Files.holds c.args.files.now).contents in
    let asked = asked_of (map string_bytes c.args.words.now) in
    let long : IsAnswer (map string_bytes c.args.words.now) contents (refused 1 (codes "refused long\n")) =
    too_long-answer asked contents c.in-Some.name.now c.in-Some.ensures.run (c.in-Err-Long.ensures.long (ap Err c.in-Err-Long.field-0-is)) in
    let silent : Took [] (g.O.Sink.holds c.args.out.now) (g.O.Sink.holds c.args.out.now) = search rules in
    want-with asked (IsAnswer (map string_bytes c.args.words.now) contents) (g.F.Files.holds c.args.files.now).reads
    (g.F.Files.holds c.read_all.new.self).reads (g.O.Sink.holds c.args.out.now)
    (g.E.Sink.holds c.args.err.now) (g.E.Sink.holds c.tell-in-Err-Long.new.err) (refused 1 (codes "refused long\n")) long refl (0, omega arith, silent)
    c.tell-in-Err-Long.ensures.prefix

module _ (words : List (List ℕ)) (contents : Option Contents) (name source bytes : List ℕ) (asked : asked_of words ≡ Run (run_of_file name))
    (tells : Tells contents name bytes) (same : source ≡ bytes) where
  -- what answers the bytes that were read answers the words
  answers-words : (answer : Answer) → IsAnswerToBytes source answer → IsAnswer words contents answer
  answers-words answer is =
      file-answer (asked_of words) contents name source answer asked (subst (λ (b : List ℕ). Tells contents name b) (sym same) tells) is

pub returns-in-Ok-clause-answered : goal.returns-in-Ok-clause-answered
returns-in-Ok-clause-answered g c =
    let contents = (g.F.Files.holds c.args.files.now).contents in
    let goes = answers-words (map string_bytes c.args.words.now) contents c.in-Some.name.now c.as_slice.result.now c.in-Ok.source.items
    c.in-Some.ensures.run c.in-Ok.ensures.whole c.as_slice.ensures.value in
    elim c.run_source.ensures.answered [
      | inl fault ↦ inr (inl fault)
      | inr rest ↦ elim rest [
        | inl want ↦ inr (inr (inl want))
        | inr given ↦ inr (inr (inr (given.0, goes given.0 given.1, given.2)))
      ]
    ]

-- no file is read but the source
pub returns-in-Ok-clause-read_fault : goal.returns-in-Ok-clause-read_fault
returns-in-Ok-clause-read_fault g c seven =
    let no : ⊥ = elim c.run_source.ensures.answered [
      | inl fault ↦ omega (arith, fault, seven)
      | inr rest ↦ elim rest [
        | inl want ↦ omega (arith, want, seven)
        | inr given ↦ bytes-status c.as_slice.result.now given.0 given.1 (sym given.2.status ∙ seven)
      ]
    ] in absurd no

pub returns-in-Ok-clause-cut_short : goal.returns-in-Ok-clause-cut_short
returns-in-Ok-clause-cut_short g c fault =
    let contents = (g.F.Files.holds c.args.files.now).contents in
    let goes = answers-words (map string_bytes c.args.words.now) contents c.in-Some.name.now c.as_slice.result.now c.in-Ok.source.items
    c.in-Some.ensures.run c.in-Ok.ensures.whole c.as_slice.ensures.value in
    part-further (IsAnswerToBytes c.as_slice.result.now) (IsAnswer (map string_bytes c.args.words.now) contents) goes
    (g.O.Sink.holds c.args.out.now) (g.O.Sink.holds c.run_source.new.out) (c.run_source.ensures.cut_short fault)

pub returns-in-Ok-clause-memory : goal.returns-in-Ok-clause-memory
returns-in-Ok-clause-memory g c wanting =
    let contents = (g.F.Files.holds c.args.files.now).contents in
    let asked = asked_of (map string_bytes c.args.words.now) in
    let reads = (g.F.Files.holds c.args.files.now).reads in
    let reads' = (g.F.Files.holds c.read_all.new.self).reads in
    let goes = answers-words (map string_bytes c.args.words.now) contents c.in-Some.name.now c.as_slice.result.now c.in-Ok.source.items
    c.in-Some.ensures.run c.in-Ok.ensures.whole c.as_slice.ensures.value in
    want-further (IsAnswerToBytes c.as_slice.result.now) (IsAnswer (map string_bytes c.args.words.now) contents) goes
    (g.O.Sink.holds c.args.out.now) (g.O.Sink.holds c.run_source.new.out) asked reads reads'
    (g.E.Sink.holds c.args.err.now) (g.E.Sink.holds c.run_source.new.err) (c.run_source.ensures.memory wanting asked reads reads')

pub returns-in-Err-Failed-clause-memory : goal.returns-in-Err-Failed-clause-memory
returns-in-Err-Failed-clause-memory g c wanting =
    let silent : Took [] (g.O.Sink.holds c.args.out.now) (g.O.Sink.holds c.args.out.now) = search rules in
    let failed : HasReadFault (asked_of (map string_bytes c.args.words.now)) c.in-Some.name.now (g.F.Files.holds c.args.files.now).reads
    (g.F.Files.holds c.read_all.new.self).reads = record { rose = search rules; named = search rules; given = search rules } in
    inl (record { silent = silent; told = inr (c.in-Some.name.now, failed, c.tell_read_fault.ensures.prefix) })
