-- A text that begins with the lines of steps does so in one way, and its first line without a reading is one.
use Rattle.std.proofs.Common.{◌≡◌, ◌≢◌, ◌∙◌, ap, refl, subst, sym, inl, inr, ℕ, suc, ◌+◌, ◌<◌, ◌≤◌, Bool, true, false, List, [], ◌∷◌, ◌++◌, length, take, drop, get_or, All, append_assoc, arith}
use Rattle.std.specs.Prelude.{◌==◌, nat_lt, codes, Some, None, Result, Ok, Err, IfOk, IfErr, MatchResult, position, if◌then◌else◌}
use Rattle.std.specs.List.{list_all, flat_map, position_from}
use Rattle.std.proofs.lemmas.Bool.{and_parts, and_from, ne_eqb, lt-ltb, ltb-true}
use Rattle.std.proofs.lemmas.Bool.Decides.{eqb_tells}
use Rattle.std.proofs.lemmas.Iterator.Adapters.{position_from-zero}
use Rattle.std.proofs.lemmas.List.{append_cancel_left, take_at, take-append-drop, drop_more, flat_map_more, length-append, length-drop}
use Rattle.std.proofs.lemmas.List.Elements.{All-nil, All-cons, All-head, All-tail}
use Rattle.std.proofs.lemmas.List.Quantifiers.{position-Some}
use Rattle.sk_names.specs.Bytes.{same_bytes}
use Rattle.sk_spaces.specs.declared.step.Step.{Step}
use Rattle.sk_trace.specs.declared.fault.TraceFault.{TraceFault}
use Rattle.sk_trace.specs.declared.fault.TraceFault.TheVariants.{Line, Memory}
use Rattle.sk_trace.specs.Candidates.{candidate_of}
use Rattle.sk_trace.specs.Fits.{IsStep}
use Rattle.sk_trace.specs.Lines.{line_of, words_of}
use Rattle.sk_trace.specs.Text.{IsTraceFault, IsUnread, LacksStep, ended_line, first_line, written_of}
use Rattle.sk_trace.specs.Text.IsUnread.{first, later}
use Rattle.sk_trace.proofs.Candidate.{black-words, candidate-line}
use Rattle.sk_trace.proofs.Free.{is_black, strung-all}
use Rattle.sk_trace.proofs.Digits.{weaker}

-- ---- no line has a line feed inside

-- a byte above the line feed
abbrev pub is_over : ℕ → Bool
is_over byte = nat_lt 10 byte

over-black : (byte : ℕ) → is_black byte ≡ true → is_over byte ≡ true
over-black byte is = let above : 32 < byte = ltb-true 32 byte is in lt-ltb 10 byte (omega (arith, above))

over-words : (words : List (List ℕ)) → list_all (list_all is_black) words ≡ true → list_all (list_all is_over) words ≡ true
over-words [] each = refl
over-words (word ∷ words) each =
    let parts = and_parts (list_all is_black word) (list_all (list_all is_black) words) each in
    and_from _ _ (weaker is_black is_over over-black word parts.0) (over-words words parts.1)

line-over : (s : Step) → IsStep s → list_all is_over (line_of s) ≡ true
line-over s fits = strung-all is_over (codes " ") [] refl refl (words_of s) (over-words (words_of s) (black-words s fits))

-- ---- a line is found at its line feed

-- two texts with a line feed agree up to their first ones and behind them
same-front : (a b x y : List ℕ) → list_all is_over a ≡ true → list_all is_over b ≡ true → a ++ 10 ∷ x ≡ b ++ 10 ∷ y → (a ≡ b) × (x ≡ y)
same-front [] [] x y over_a over_b same = (refl, cc)
same-front [] (d ∷ b) x y over_a over_b same =
    let feed : 10 ≡ d = cc in
    let over : is_over d ≡ true = (and_parts (is_over d) (list_all is_over b) over_b).0 in
    let not_over : is_over d ≡ false = ap is_over (sym feed) in
    cc
same-front (c ∷ a) [] x y over_a over_b same =
    let feed : 10 ≡ c = cc in
    let over : is_over c ≡ true = (and_parts (is_over c) (list_all is_over a) over_a).0 in
    let not_over : is_over c ≡ false = ap is_over (sym feed) in
    cc
same-front (c ∷ a) (d ∷ b) x y over_a over_b same =
    let heads : c ≡ d = cc in
    let tails : a ++ 10 ∷ x ≡ b ++ 10 ∷ y = cc in
    let rest = same-front a b x y (and_parts (is_over c) (list_all is_over a) over_a).1 (and_parts (is_over d) (list_all is_over b) over_b).1 tails in
    let fronts = rest.0 in
    (cc, rest.1)

ended : (s : Step) (rest : List ℕ) → ended_line s ++ rest ≡ line_of s ++ 10 ∷ rest
ended s rest = append_assoc (line_of s) (codes "\n") rest

-- steps with the same line are the same
same-line : (s t : Step) (x y : List ℕ) → IsStep s → IsStep t → ended_line s ++ x ≡ ended_line t ++ y → (s ≡ t) × (x ≡ y)
same-line s t x y s_fits t_fits same =
    let parts = same-front (line_of s) (line_of t) x y (line-over s s_fits) (line-over t t_fits) (sym (ended s x) ∙ same ∙ ended t y) in
    let one : candidate_of (line_of s) ≡ Some s = candidate-line s s_fits in
    let other : candidate_of (line_of t) ≡ Some t = candidate-line t t_fits in
    let both : Some s ≡ Some t = sym one ∙ ap candidate_of parts.0 ∙ other in
    (some-same s t both, parts.1)
  where
    some-same : (s t : Step) → Some s ≡ Some t → s ≡ t
    some-same s t same = cc

never-empty : (a x : List ℕ) → a ++ 10 ∷ x ≡ [] → ⊥
never-empty [] x same = cc
never-empty (c ∷ a) x same = cc

no-line : (s : Step) (x : List ℕ) → ended_line s ++ x ≡ [] → ⊥
no-line s x same = never-empty (line_of s) x (sym (ended s x) ∙ same)

-- the lines of steps
abbrev pub lines_of : List Step → List ℕ
lines_of steps = flat_map ended_line steps

same-steps : (ss ts : List Step) → All IsStep ss → All IsStep ts → lines_of ss ≡ lines_of ts → ss ≡ ts
same-steps [] [] ss_fit ts_fit same = refl
same-steps [] (t ∷ ts) ss_fit ts_fit same = absurd (no-line t (lines_of ts) (sym same))
same-steps (s ∷ ss) [] ss_fit ts_fit same = absurd (no-line s (lines_of ss) same)
same-steps (s ∷ ss) (t ∷ ts) ss_fit ts_fit same =
    let parts = same-line s t (lines_of ss) (lines_of ts) (All-head IsStep s ss ss_fit) (All-head IsStep t ts ts_fit) same in
    let heads = parts.0 in
    let tails = same-steps ss ts (All-tail IsStep s ss ss_fit) (All-tail IsStep t ts ts_fit) parts.1 in
    cc

pub same-written : (text : List ℕ) (ss ts : List Step) → All IsStep ss → All IsStep ts → text ≡ written_of ss → text ≡ written_of ts → ss ≡ ts
same-written text ss ts ss_fit ts_fit one other =
    same-steps ss ts ss_fit ts_fit (append_cancel_left first_line (lines_of ss) (lines_of ts) (sym one ∙ other))

-- ---- a written trace has no line without a reading

not-broken : (bs ts : List Step) (rest : List ℕ) → All IsStep bs → All IsStep ts → lines_of bs ++ rest ≡ lines_of ts → rest ≢ [] → LacksStep rest → ⊥
not-broken [] [] rest bs_fit ts_fit same some unread = some same
not-broken [] (t ∷ ts) rest bs_fit ts_fit same some unread = unread t (All-head IsStep t ts ts_fit) (lines_of ts) same
not-broken (b ∷ bs) [] rest bs_fit ts_fit same some unread =
    no-line b (lines_of bs ++ rest) (sym (append_assoc (ended_line b) (lines_of bs) rest) ∙ same)
not-broken (b ∷ bs) (t ∷ ts) rest bs_fit ts_fit same some unread =
    let parts = same-line b t (lines_of bs ++ rest) (lines_of ts) (All-head IsStep b bs bs_fit) (All-head IsStep t ts ts_fit)
    (sym (append_assoc (ended_line b) (lines_of bs) rest) ∙ same) in
    not-broken bs ts rest (All-tail IsStep b bs bs_fit) (All-tail IsStep t ts ts_fit) parts.1 some unread

not-unread : (text : List ℕ) (n : ℕ) (ts : List Step) → All IsStep ts → text ≡ written_of ts → IsUnread text n → ⊥
not-unread text n ts ts_fit is (first lacks) = lacks (lines_of ts) is
not-unread text n ts ts_fit is (later broken) =
    let same : first_line ++ (lines_of broken.steps ++ broken.rest) ≡ first_line ++ lines_of ts =
    sym (append_assoc first_line (lines_of broken.steps) broken.rest) ∙ sym broken.split ∙ is in
    not-broken broken.steps ts broken.rest broken.fit ts_fit
    (append_cancel_left first_line (lines_of broken.steps ++ broken.rest) (lines_of ts) same) broken.some broken.unread

-- the one fault of a written trace is want of memory
pub only-memory : (text : List ℕ) (told : TraceFault) (ts : List Step) → IsTraceFault text told → All IsStep ts → text ≡ written_of ts → told ≡ Memory
only-memory text (Line n) ts fault ts_fit is = absurd (not-unread text n ts ts_fit is fault)
only-memory text Memory ts fault ts_fit is = refl

-- ---- reading goes on

position-at : (i : ℕ) (a x : List ℕ) → list_all is_over a ≡ true → position_from (λ byte. byte == 10) i (a ++ 10 ∷ x) ≡ Some (i + length a)
position-at i [] x over = ap (λ n. Some n) (omega arith)
position-at i (c ∷ a) x over =
    let parts = and_parts (is_over c) (list_all is_over a) over in
    let above : 10 < c = ltb-true 10 c parts.0 in
    let other : (c == 10) ≡ false = ne_eqb c 10 (λ same. absurd (omega (arith, above, same))) in
    let rest = position-at (i + 1) a x parts.1 in
    let count : i + 1 + length a ≡ i + suc (length a) = omega arith in
    ap (λ (b : Bool). if b then Some i else position_from (λ byte. byte == 10) (i + 1) (a ++ 10 ∷ x)) other ∙ rest ∙ ap (λ n. Some n) count

line-position : (s : Step) (text rest : List ℕ) → IsStep s → text ≡ ended_line s ++ rest → position (λ byte. byte == 10) text ≡ Some (length (line_of s))
line-position s text rest fits is =
    let count : 0 + length (line_of s) ≡ length (line_of s) = omega arith in
    ap (position (λ byte. byte == 10)) (is ∙ ended s rest) ∙ position_from-zero (λ byte. byte == 10) (line_of s ++ 10 ∷ rest)
    ∙ position-at 0 (line_of s) rest (line-over s fits) ∙ ap (λ n. Some n) count

-- a text without a line feed begins with no line
pub no-feed : (text : List ℕ) → position (λ byte. byte == 10) text ≡ None → LacksStep text
no-feed text none s fits rest is = cc (none, line-position s text rest fits is)

-- a text whose first line is that of no step begins with the line of none
pub no-step : (text : List ℕ) (end : ℕ) → position (λ byte. byte == 10) text ≡ Some end → ((s : Step) → IsStep s → take end text ≢ line_of s) → LacksStep text
no-step text end found unread s fits rest is =
    let at : Some end ≡ Some (length (line_of s)) = sym found ∙ line-position s text rest fits is in
    let place : end ≡ length (line_of s) = some-same end (length (line_of s)) at in
    unread s fits (ap (take end) (is ∙ ended s rest) ∙ take_at (line_of s) (10 ∷ rest) end (sym place))
  where
    some-same : (n m : ℕ) → Some n ≡ Some m → n ≡ m
    some-same n m same = cc

-- the first line, its line feed and the rest
pub cut-line : (text : List ℕ) (end : ℕ) → position (λ byte. byte == 10) text ≡ Some end → (text ≡ take end text ++ 10 ∷ drop (end + 1) text) × (end < length text)
cut-line text end found =
    let at = position-Some (λ byte. byte == 10) text end 0 found in
    let feed : get_or text end 0 ≡ 10 = elim (eqb_tells (get_or text end 0) 10) [ inl same ↦ same.1 | inr other ↦ cc (other.0, at.1) ] in
    (sym (take-append-drop end text) ∙ ap (λ rest. take end text ++ rest) (drop_more text end 0 at.0 ∙ ap (λ b. b ∷ drop (end + 1) text) feed), at.0)

-- how far a text has been read
pub record IsReadTo (text : List ℕ) (steps : List Step) (rest : List ℕ) : Type 0 where
  pub split : text ≡ written_of steps ++ rest
  pub fit : All IsStep steps
  pub counted : length steps + length rest ≤ length text

-- one more line
pub one-more : (text : List ℕ) (steps : List Step) (rest : List ℕ) (end : ℕ) (s : Step) → IsReadTo text steps rest
    → position (λ byte. byte == 10) rest ≡ Some end → take end rest ≡ line_of s → IsStep s
    → IsReadTo text (steps ++ s ∷ []) (drop (end + 1) rest)
one-more text steps rest end s read found line fits =
    let cut = cut-line rest end found in
    let after = drop (end + 1) rest in
    let is : rest ≡ ended_line s ++ after = cut.0 ∙ ap (λ l. l ++ 10 ∷ after) line ∙ sym (ended s after) in
    record {
      split = read.split ∙ ap (λ r. written_of steps ++ r) is ∙ sym (append_assoc (written_of steps) (ended_line s) after)
          ∙ ap (λ w. w ++ after) (flat_map_more ended_line first_line steps s);
      fit = All-push steps s read.fit fits;
      counted = omega (arith, read.counted, length-append steps (s ∷ []), length-drop (end + 1) rest, cut.1);
    }
  where
    All-push : (steps : List Step) (s : Step) → All IsStep steps → IsStep s → All IsStep (steps ++ s ∷ [])
    All-push [] s fit fits = All-cons IsStep s [] fits (All-nil IsStep)
    All-push (t ∷ steps) s fit fits =
        All-cons IsStep t (steps ++ s ∷ []) (All-head IsStep t steps fit) (All-push steps s (All-tail IsStep t steps fit) fits)

-- a line that has no reading
pub broken-at : (text : List ℕ) (steps : List Step) (rest : List ℕ) (number : ℕ) → IsReadTo text steps rest → rest ≢ [] → length steps + 2 ≡ number
    → LacksStep rest → IsUnread text number
broken-at text steps rest number read some numbered unread =
    later (record {
      steps = steps;
      fit = read.fit;
      rest = rest;
      split = read.split;
      numbered = numbered;
      some = some;
      unread = unread;
    })

-- the same, as it is found in the code
pub gone-on : (text : List ℕ) (steps next_steps : List Step) (rest next_rest line : List ℕ) (end : ℕ) (s : Step) → IsReadTo text steps rest
    → position (λ byte. byte == 10) rest ≡ Some end → line ≡ take end rest → line ≡ line_of s → IsStep s → next_steps ≡ steps ++ s ∷ []
    → next_rest ≡ drop (end + 1) rest → IsReadTo text next_steps next_rest
gone-on text steps next_steps rest next_rest line end s read found cut is fits pushed moved =
    subst (λ ns. IsReadTo text ns next_rest) (sym pushed)
    (subst (λ nr. IsReadTo text (steps ++ s ∷ []) nr) (sym moved) (one-more text steps rest end s read found (sym cut ∙ is) fits))

pub not-a-step : (text line : List ℕ) (end : ℕ) → position (λ byte. byte == 10) text ≡ Some end → line ≡ take end text
    → ((s : Step) → IsStep s → line ≢ line_of s) → LacksStep text
not-a-step text line end found cut unread = no-step text end found (λ s fits is. unread s fits (cut ∙ is))

-- a text that does not begin with the first line
pub no-first : (text : List ℕ) → same_bytes (take 14 text) first_line ≡ false → IsUnread text 1
no-first text differs =
    first (λ rest is.
    let same : same_bytes (take 14 text) first_line ≡ true = ap (λ b. same_bytes (take 14 b) first_line) is in
    cc (same, differs))

-- what is answered for a written trace
pub read-back : {V : Type 0} (items : V → List Step) (text : List ℕ) (r : Result V TraceFault) (ts : List Step)
    → IfOk r (λ v. text ≡ written_of (items v)) → IfOk r (λ v. All IsStep (items v)) → IfErr r (λ told. IsTraceFault text told)
    → All IsStep ts → text ≡ written_of ts → MatchResult r (λ v. items v ≡ ts) (λ told. told ≡ Memory)
read-back items text (Ok v) ts ok fit err ts_fit is = same-written text (items v) ts fit ts_fit ok is
read-back items text (Err told) ts ok fit err ts_fit is = only-memory text told ts err ts_fit is
