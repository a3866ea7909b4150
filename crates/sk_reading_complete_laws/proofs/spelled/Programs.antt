-- Lawful spellings of functions and programs are read as far as their marks allow.
use Rattle.std.proofs.Common.{◌≡◌, ℕ, zero, suc, ◌+◌, ◌<◌, ◌≤◌, true, false, nat_lt, inl, inr, List, [], ◌∷◌, ◌++◌, length, map, drop, refl, ap, sym, ◌∙◌, arith, rules, append_assoc, append-nil, length-append}
use Rattle.sk_grammar.specs.ExpressionSpelling.{sign_at, word, with_commas, each}
use Rattle.sk_grammar.specs.Grammar.{Parameter, Definition, parameter_in_front, parameter_tree, IsLawfulParameter, definition_in_front, definition_tree, IsLawfulDefinition, Spelling, tokens_in, IsLawfulSpelling}
use Rattle.sk_grammar.specs.Limits.{block_instances}
use Rattle.sk_grammar.specs.StatementSpelling.{block_in_front}
use Rattle.sk_refusals.specs.Marks.{Marks, mark, marks, counting, parameters_marks, block_marks, definition_marks, definitions_marks, marks_in}
use Rattle.sk_refusals.specs.Refusals.{most_of}
use Rattle.sk_refusals.specs.declared.refusal.Limited.{Limited}
use Rattle.sk_refusals.specs.declared.refusal.Limited.TheVariants.{Functions, Parameters}
use Rattle.sk_refusals.specs.declared.refusal.Refusal.TheVariants.{Many}
use Rattle.sk_tokens.specs.declared.token.Sign.TheVariants as sign
use Rattle.sk_tokens.specs.declared.token.Token.{Token}
use Rattle.sk_tree.specs.declared.tree.Function.{Function}
use Rattle.sk_tree.specs.declared.tree.Param.{Param}
use Rattle.sk_reading.specs.Reading.{Outcome, Read, Refused, Parser, and_then, front, advance, sees, after, expect, same_sign, front_line}
use Rattle.sk_reading.specs.ReadingPrograms as reading
use Rattle.sk_reading_complete_laws.proofs.expressions.Starts.{typed-is_type}
use Rattle.sk_reading_complete_laws.proofs.Steps.{at, name-ok, ty-ok}
use Rattle.sk_reading_complete_laws.proofs.spelled.Blocks.{block-judged}
use Rattle.sk_reading_complete_laws.proofs.spelled.Judged.{Judged, Goes, Halts, Here, Fine, OneTooMany, plain, next, next_marks, judged-then, judged-trans, remarked, below-or}
use Rattle.sk_reading_complete_laws.proofs.spelled.Lengths.{behind_first, parameter-marked, parameter-length, parameters-length, block-length, definition-length, definitions-length}
use Rattle.sk_reading_complete_laws.proofs.Parameters.{parameter-ok, parameter-begins, parameters-not_close, typed-not_end, definitions_longer, parameters_longer}

-- one more of a kind counts at a token
counted_more : {A : Type 0} {o' : Outcome A} {rest : Marks} (what : Limited) (g : Unit {0} → Parser A) (depth found number n i : ℕ) (tokens : List Token) (behind : Marks) → depth ≤ 64 → suc found ≡ number
    → length tokens ≡ length (counting depth what number ∷ behind)
    → (Fine (counting depth what number) → Judged (g tt (at tokens n i)) o' rest (counting depth what number ∷ behind))
    → Judged (and_then (reading.one_more what found (most_of what) (at tokens n i)) g) o' rest (counting depth what number ∷ behind)
unfolding reading.one_more
counted_more {A} {o'} {rest} what g depth found number n i tokens behind within is same go = elim (below-or found (most_of what)) [
  | inl less ↦ (let yes : nat_lt found (most_of what) ≡ true = search rules in
      rw yes (go (record { depth = within; count = omega arith })))
  | inr more ↦ (let no : nat_lt found (most_of what) ≡ false = search rules in
      rw no (Halts (Many what) (counting depth what number) behind (ap (λ k. Refused (Many what) k) same) Here (OneTooMany (counting depth what number) what number within refl (omega arith))))
]

-- ---- parameters

parameters_from-judged : (l : List (Parameter × ℕ)) → 0 < length l → each (λ written. IsLawfulParameter written.0) l → (line turns : ℕ) (found : List Param) (number : ℕ) (r : List Token) (rest : Marks)
    → suc (length found) ≡ number → length r ≡ length rest → (n i : ℕ) → length l ≤ turns
    → Judged (reading.parameters_from turns found (at (with_commas parameter_in_front l (sign_at sign.CloseParen line ∷ r)) n i))
    (Read (found ++ map (λ written. parameter_tree written.0) l, at (sign_at sign.CloseParen line ∷ r) n i)) (mark 1 ∷ rest) (parameters_marks number l (mark 1 ∷ rest))
unfolding reading.parameters_from reading.count_parameter sees front after advance same_sign
parameters_from-judged [] some lawful line turns found number r rest is same n i enough = absurd (omega arith)
parameters_from-judged (a ∷ l) some lawful line zero found number r rest is same n i enough = absurd (omega arith)
parameters_from-judged (a ∷ []) some lawful line (suc turns) found number r rest is same n i enough =
    let end = sign_at sign.CloseParen line ∷ r in
    let marked = parameter-marked number a.0 (mark 1 ∷ rest) in
    let lengths = parameter-length number a.0 end (mark 1 ∷ rest) (omega arith) ∙ ap length marked in
    rw (parameter-begins a.0 end) (remarked marked (counted_more Parameters _ 1 (length found) number n i (parameter_in_front a.0 end) (marks (behind_first a.0) 1 (mark 1 ∷ rest)) (omega arith) is lengths (λ fine.
    rw (parameter-ok a.0 lawful.0 end n i) (next fine (next_marks (behind_first a.0) 1 (omega arith) (Goes refl Here))))))
parameters_from-judged (a ∷ b ∷ l) some lawful line (suc turns) found number r rest is same n i enough =
    let end = sign_at sign.CloseParen line ∷ r in
    let behind = sign_at sign.Comma a.1 ∷ with_commas parameter_in_front (b ∷ l) end in
    let later = mark 1 ∷ parameters_marks (suc number) (b ∷ l) (mark 1 ∷ rest) in
    let marked = parameter-marked number a.0 later in
    let few = parameters-length (suc number) (b ∷ l) end (mark 1 ∷ rest) (omega arith) in
    let lengths = parameter-length number a.0 behind later (omega (arith, few)) ∙ ap length marked in
    rw (parameter-begins a.0 behind) (remarked marked (counted_more Parameters _ 1 (length found) number n i (parameter_in_front a.0 behind) (marks (behind_first a.0) 1 later) (omega arith) is lengths (λ fine.
    rw (parameter-ok a.0 lawful.0 behind n i) (next fine (next_marks (behind_first a.0) 1 (omega arith) (next (plain 1 (omega arith))
    (judged-trans (parameters_from-judged (b ∷ l) (omega arith) lawful.1 line turns (found ++ parameter_tree a.0 ∷ []) (suc number) r rest (omega (arith, length-append found (parameter_tree a.0 ∷ []))) same n i (omega arith))
    (Goes (ap (λ k. Read (k, at end n i)) (append_assoc found (parameter_tree a.0 ∷ []) (map (λ written. parameter_tree written.0) (b ∷ l)))) Here))))))))

parameters-judged : (l : List (Parameter × ℕ)) → each (λ written. IsLawfulParameter written.0) l → (line : ℕ) (r : List Token) (rest : Marks) → length r ≡ length rest → (n i : ℕ)
    → Judged (reading.parameters (at (with_commas parameter_in_front l (sign_at sign.CloseParen line ∷ r)) n i))
    (Read (map (λ written. parameter_tree written.0) l, at (sign_at sign.CloseParen line ∷ r) n i)) (mark 1 ∷ rest) (parameters_marks 1 l (mark 1 ∷ rest))
unfolding reading.parameters sees front same_sign
parameters-judged [] lawful line r rest same n i = Goes refl Here
parameters-judged (a ∷ l) lawful line r rest same n i =
    let end = sign_at sign.CloseParen line ∷ r in
    let tokens = with_commas parameter_in_front (a ∷ l) end in
    rw (parameters-not_close a l end) (parameters_from-judged (a ∷ l) (omega arith) lawful line (length tokens) [] 1 r rest refl same n i (omega (arith, parameters_longer (a ∷ l) end)))

-- ---- functions

function-judged : (d : Definition) → IsLawfulDefinition d → (number : ℕ) (r : List Token) (rest : Marks) (n i j : ℕ) → i + block_instances d.body ≡ j → length r ≡ length rest
    → (m : ℕ) × (Fine (counting 0 Functions number) → Judged (reading.function (at (definition_in_front d r) n i)) (Read (definition_tree d, at r m j)) rest (definition_marks number i d rest))
unfolding reading.function front_line front advance sees expect same_sign
function-judged d lawful number r rest n i j sum same =
    let behind = sign_at sign.CloseParen (d.at 3) ∷ block_in_front d.body r in
    let declared = with_commas parameter_in_front d.params behind in
    let lengths = block-length d.body 0 i r rest same in
    let (m, judged) = block-judged d.body lawful.2 64 0 n i j r rest (omega arith) sum same in (
      m,
      λ fine. rw (ty-ok d.ret (d.at 0) (word d.name (d.at 1) ∷ sign_at sign.OpenParen (d.at 2) ∷ declared) n i) (rw (name-ok d.name (d.at 1) (sign_at sign.OpenParen (d.at 2) ∷ declared) n i lawful.0)
          (next fine (next (plain 0 (omega arith)) (next (plain 1 (omega arith)) (judged-then _ (parameters-judged d.params lawful.1 (d.at 3) (block_in_front d.body r) (block_marks d.body 0 i rest) lengths n i)
          (next (plain 1 (omega arith)) (judged-then _ judged (Goes refl Here)))))))),
    )

functions_from-judged : (l : Spelling) → IsLawfulSpelling l → (turns : ℕ) (found : List Function) (number n i : ℕ) → suc (length found) ≡ number → length l ≤ turns
    → (m : ℕ) × (j : ℕ) × Judged (reading.functions_from turns found (at (tokens_in l) n i)) (Read (found ++ map definition_tree l, at [] m j)) [] (definitions_marks number i l)
unfolding reading.functions_from reading.count_function reading.at_end front
functions_from-judged [] lawful zero found number n i is enough = (n, i, Goes (ap (λ k. Read (k, at [] n i)) (sym (append-nil found))) Here)
functions_from-judged [] lawful (suc turns) found number n i is enough = (n, i, Goes (ap (λ k. Read (k, at [] n i)) (sym (append-nil found))) Here)
functions_from-judged (d ∷ l) lawful zero found number n i is enough = absurd (omega arith)
functions_from-judged (d ∷ l) lawful (suc turns) found number n i is enough =
    let k = i + block_instances d.body in
    let tokens = definition_in_front d (tokens_in l) in
    let later = definitions_marks (suc number) k l in
    let behind = mark 0 ∷ mark 1 ∷ parameters_marks 1 d.params (mark 1 ∷ block_marks d.body 0 i later) in
    let few = definitions-length (suc number) k l in
    let (m, first) = function-judged d lawful.0 number (tokens_in l) later n i k refl few in
    let (m', j, others) = functions_from-judged l lawful.1 turns (found ++ definition_tree d ∷ []) (suc number) m k (omega (arith, length-append found (definition_tree d ∷ []))) (omega arith) in (
      m',
      j,
      rw (typed-not_end d.ret (d.at 0) (drop 1 tokens)) (rw (typed-is_type d.ret (d.at 0))
          (counted_more Functions _ 0 (length found) number n i tokens behind (omega arith) is (definition-length number i d (tokens_in l) later few) (λ fine.
          judged-then _ (first fine) (judged-trans others (Goes (ap (λ f. Read (f, at [] m' j)) (append_assoc found (definition_tree d ∷ []) (map definition_tree l))) Here))))),
    )

-- ---- programs

pub program-judged : (l : Spelling) → IsLawfulSpelling l → (m : ℕ) × (j : ℕ) × Judged (reading.functions (tokens_in l)) (Read (map definition_tree l, at [] m j)) [] (marks_in l)
unfolding reading.functions
program-judged l lawful = functions_from-judged l lawful (length (tokens_in l)) [] 1 0 0 refl (definitions_longer l lawful)
