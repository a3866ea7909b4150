-- Loops over numbers: marks set, counts taken down, and who waits for whom.
use Rattle.std.proofs.Common.{◌≡◌, ◌≢◌, ◌∙◌, ap, sym, subst, ℕ, zero, suc, ◌+◌, ◌<◌, ◌≤◌, Bool, true, false, cond, eqb, List, [], ◌∷◌, length, take, set, get_or, replicate, refl, arith, inl, inr, add-zero}
use Rattle.std.proofs.lemmas.Bool.{cases_eq, cases_lt, ne_eqb, eq-eqb}
use Rattle.std.proofs.lemmas.List.{length-set, get_or-set_same, get_or-set_other, take_more, take_all}
use Rattle.sk_ranks.specs.Numbers.{times, mark_of, Inserts, CountsDown}
use Rattle.sk_ranks.specs.Followers.{waits, AddsTo, IsInverse, IsInverseBelow}
use Rattle.sk_ranks.proofs.FollowerLemmas.{times-push}

-- one more of the list
pub times-more : (x i n : ℕ) (xs : List ℕ) → i < length xs → n ≡ get_or xs i 0 → times x (take (i + 1) xs) ≡ times x (take i xs) + mark_of (eqb x n)
times-more x i n xs inside is =
    ap (times x) (take_more xs i 0 inside) ∙ times-push x (get_or xs i 0) (take i xs) ∙ ap (λ (k : ℕ). times x (take i xs) + mark_of (eqb x k)) (sym is)

times-take : (x i : ℕ) (xs : List ℕ) → times x (take i xs) ≤ times x xs
times-take x zero xs = omega arith
times-take x (suc i) [] = omega arith
times-take x (suc i) (y ∷ xs) = let rest = times-take x i xs in omega arith

one-of : (x n : ℕ) → x ≡ n → mark_of (eqb x n) ≡ 1
one-of x n same = ap mark_of (eq-eqb x n same)

none-of : (x n : ℕ) → x ≢ n → mark_of (eqb x n) ≡ 0
none-of x n differs = ap mark_of (ne_eqb x n differs)

pub Inserts-none : (marks numbers : List ℕ) → Inserts marks marks (take 0 numbers)
Inserts-none marks numbers = record { len = refl; each = λ i some. absurd (omega arith); others = λ i none. refl }

pub Inserts-more : (old new numbers : List ℕ) (i n : ℕ) → Inserts old new (take i numbers) → i < length numbers → n ≡ get_or numbers i 0 → n < length old → Inserts old (set new n 1) (take (i + 1) numbers)
Inserts-more old new numbers i n inserts inside is there = record {
  len = length-set new n 1 ∙ inserts.len;
  each = λ x some. elim (cases_eq x n) [
    | inl same ↦ ap (λ (k : ℕ). get_or (set new n 1) k 0) same ∙ get_or-set_same new n 1 0 (omega (arith, inserts.len))
    | inr differs ↦
        let more = times-more x i n numbers inside is in
        let none = none-of x n differs in
        get_or-set_other new n x 1 0 differs ∙ inserts.each x (omega arith)
  ];
  others = λ x none. elim (cases_eq x n) [
    | inl same ↦
        let more = times-more x i n numbers inside is in
        let one = one-of x n same in
        absurd (omega arith)
    | inr differs ↦
        let more = times-more x i n numbers inside is in
        get_or-set_other new n x 1 0 differs ∙ inserts.others x (omega arith)
  ];
}

pub Inserts-all : (old new numbers : List ℕ) (i : ℕ) → Inserts old new (take i numbers) → length numbers ≤ i → Inserts old new numbers
Inserts-all old new numbers i inserts past = subst (λ (ns : List ℕ). Inserts old new ns) (take_all i numbers past) inserts

pub CountsDown-none : (counts ready numbers : List ℕ) → CountsDown counts ready counts ready (take 0 numbers)
CountsDown-none counts ready numbers = record {
  counts_len = refl;
  ready_len = refl;
  counts = λ i. add-zero _;
  freed = λ i some none. absurd (omega arith);
  waiting = λ i some. refl;
  others = λ i none. refl;
}

pub CountsDown-all : (counts ready new_counts new_ready numbers : List ℕ) (i : ℕ) → CountsDown counts ready new_counts new_ready (take i numbers) → length numbers ≤ i → CountsDown counts ready new_counts new_ready numbers
CountsDown-all counts ready new_counts new_ready numbers i down past = subst (λ (ns : List ℕ). CountsDown counts ready new_counts new_ready ns) (take_all i numbers past) down

-- there is one to take
pub CountsDown-some : (counts ready new_counts new_ready numbers : List ℕ) (i n : ℕ) → CountsDown counts ready new_counts new_ready (take i numbers) → i < length numbers → n ≡ get_or numbers i 0 → ((j : ℕ) → times j numbers ≤ get_or counts j 0) → 1 ≤ get_or new_counts n 0
CountsDown-some counts ready new_counts new_ready numbers i n down inside is enough =
    let more = times-more n i n numbers inside is in
    let one = one-of n n refl in
    let within = times-take n (i + 1) numbers in
    let had = enough n in
    let counted = down.counts n in
    omega arith

-- the counts after one more
counted : (counts ready new_counts new_ready numbers : List ℕ) (i n v : ℕ) → CountsDown counts ready new_counts new_ready (take i numbers) → i < length numbers → n ≡ get_or numbers i 0 → n < length counts → v + 1 ≡ get_or new_counts n 0 → (j : ℕ) → get_or (set new_counts n v) j 0 + times j (take (i + 1) numbers) ≡ get_or counts j 0
counted counts ready new_counts new_ready numbers i n v down inside is there took j = elim (cases_eq j n) [
  | inl same ↦
      let more = times-more j i n numbers inside is in
      let one = one-of j n same in
      let now : get_or (set new_counts n v) j 0 ≡ v = ap (λ (k : ℕ). get_or (set new_counts n v) k 0) same ∙ get_or-set_same new_counts n v 0 (omega (arith, down.counts_len)) in
      let had : get_or new_counts j 0 ≡ get_or new_counts n 0 = ap (λ (k : ℕ). get_or new_counts k 0) same in
      let before = down.counts j in
      omega arith
  | inr differs ↦
      let more = times-more j i n numbers inside is in
      let none = none-of j n differs in
      let now = get_or-set_other new_counts n j v 0 differs in
      let before = down.counts j in
      omega arith
]

pub CountsDown-freed : (counts ready new_counts new_ready numbers : List ℕ) (i n v : ℕ) → CountsDown counts ready new_counts new_ready (take i numbers) → i < length numbers → n ≡ get_or numbers i 0 → n < length counts → length counts ≤ length ready → v + 1 ≡ get_or new_counts n 0 → v ≡ 0 → CountsDown counts ready (set new_counts n v) (set new_ready n 1) (take (i + 1) numbers)
CountsDown-freed counts ready new_counts new_ready numbers i n v down inside is there room took none_left = record {
  counts_len = length-set new_counts n v ∙ down.counts_len;
  ready_len = length-set new_ready n 1 ∙ down.ready_len;
  counts = counted counts ready new_counts new_ready numbers i n v down inside is there took;
  freed = λ j some none. elim (cases_eq j n) [
    | inl same ↦ ap (λ (k : ℕ). get_or (set new_ready n 1) k 0) same ∙ get_or-set_same new_ready n 1 0 (omega (arith, down.ready_len))
    | inr differs ↦
        let more = times-more j i n numbers inside is in
        let no = none-of j n differs in
        let now = get_or-set_other new_counts n j v 0 differs in
        get_or-set_other new_ready n j 1 0 differs ∙ down.freed j (omega arith) (omega arith)
  ];
  waiting = λ j some. elim (cases_eq j n) [
    | inl same ↦
        let now : get_or (set new_counts n v) j 0 ≡ v = ap (λ (k : ℕ). get_or (set new_counts n v) k 0) same ∙ get_or-set_same new_counts n v 0 (omega (arith, down.counts_len)) in
        absurd (omega arith)
    | inr differs ↦
        let now = get_or-set_other new_counts n j v 0 differs in
        get_or-set_other new_ready n j 1 0 differs ∙ down.waiting j (omega arith)
  ];
  others = λ j none. elim (cases_eq j n) [
    | inl same ↦
        let more = times-more j i n numbers inside is in
        let one = one-of j n same in
        absurd (omega arith)
    | inr differs ↦
        let more = times-more j i n numbers inside is in
        get_or-set_other new_ready n j 1 0 differs ∙ down.others j (omega arith)
  ];
}

pub CountsDown-kept : (counts ready new_counts new_ready numbers : List ℕ) (i n v : ℕ) → CountsDown counts ready new_counts new_ready (take i numbers) → i < length numbers → n ≡ get_or numbers i 0 → n < length counts → v + 1 ≡ get_or new_counts n 0 → 0 < v → CountsDown counts ready (set new_counts n v) new_ready (take (i + 1) numbers)
CountsDown-kept counts ready new_counts new_ready numbers i n v down inside is there took some_left =
    let here : (j : ℕ) → j ≡ n → get_or (set new_counts n v) j 0 ≡ v = λ j same. ap (λ (k : ℕ). get_or (set new_counts n v) k 0) same ∙ get_or-set_same new_counts n v 0 (omega (arith, down.counts_len)) in
    record {
      counts_len = length-set new_counts n v ∙ down.counts_len;
      ready_len = down.ready_len;
      counts = counted counts ready new_counts new_ready numbers i n v down inside is there took;
      freed = λ j some none. elim (cases_eq j n) [
        | inl same ↦ absurd (let now = here j same in omega arith)
        | inr differs ↦
            let more = times-more j i n numbers inside is in
            let no = none-of j n differs in
            let now = get_or-set_other new_counts n j v 0 differs in
            down.freed j (omega arith) (omega arith)
      ];
      waiting = λ j some. elim (cases_eq j n) [
        | inl same ↦ down.waiting j (let had : get_or new_counts j 0 ≡ get_or new_counts n 0 = ap (λ (k : ℕ). get_or new_counts k 0) same in omega arith)
        | inr differs ↦ down.waiting j (let now = get_or-set_other new_counts n j v 0 differs in omega arith)
      ];
      others = λ j none. let more = times-more j i n numbers inside is in down.others j (omega arith);
    }

-- nobody waits for anything yet
waits-none : (n e x : ℕ) → waits (replicate n []) e x ≡ 0
waits-none zero e x = refl
waits-none (suc n) zero x = refl
waits-none (suc n) (suc e) x = waits-none n e x

pub Inverse-none : (n : ℕ) (needs : ℕ → List ℕ) → IsInverseBelow 0 (replicate n []) needs
Inverse-none n needs = record { below = λ e x low. absurd (omega arith); above = λ e x high. waits-none n e x }

-- one more was added, with what it needs
pub Inverse-more : (i who : ℕ) (lists new : List (List ℕ)) (needs : ℕ → List ℕ) (awaited : List ℕ) → IsInverseBelow i lists needs → who ≡ i → awaited ≡ needs i → AddsTo lists new who awaited → IsInverseBelow (i + 1) new needs
Inverse-more i who lists new needs awaited inverse who_is is adds =
    let same : (e x : ℕ) → x ≢ i → waits new e x ≡ waits lists e x =
    λ e x differs. adds.each e x ∙ ap (λ (b : Bool). waits lists e x + cond b (times e awaited) 0) (ne_eqb x who (λ q. differs (q ∙ who_is))) ∙ add-zero _ in
    let here : (e : ℕ) → waits new e i ≡ times e (needs i) =
    λ e.
    let now : waits new e i ≡ waits lists e i + times e awaited = adds.each e i ∙ ap (λ (b : Bool). waits lists e i + cond b (times e awaited) 0) (eq-eqb i who (sym who_is)) in
    let none = inverse.above e i (omega arith) in
    let all : times e awaited ≡ times e (needs i) = ap (times e) is in
    omega arith in
    record {
      below = λ e x low. elim (cases_eq x i) [
        | inl q ↦ ap (waits new e) q ∙ here e ∙ ap (λ (k : ℕ). times e (needs k)) (sym q)
        | inr differs ↦ same e x differs ∙ inverse.below e x (omega arith)
      ];
      above = λ e x high. same e x (λ q. omega arith) ∙ inverse.above e x (omega arith);
    }

-- or it needs nothing
pub Inverse-skip : (i : ℕ) (lists : List (List ℕ)) (needs : ℕ → List ℕ) → IsInverseBelow i lists needs → needs i ≡ [] → IsInverseBelow (i + 1) lists needs
Inverse-skip i lists needs inverse none = record {
  below = λ e x low. elim (cases_eq x i) [
    | inl q ↦ inverse.above e x (omega arith) ∙ sym (ap (λ (k : ℕ). times e (needs k)) q ∙ ap (times e) none)
    | inr differs ↦ inverse.below e x (omega arith)
  ];
  above = λ e x high. inverse.above e x (omega arith);
}

pub Inverse-all : (n : ℕ) (lists : List (List ℕ)) (needs : ℕ → List ℕ) → IsInverseBelow n lists needs → ((x : ℕ) → n ≤ x → needs x ≡ []) → IsInverse lists needs
Inverse-all n lists needs inverse past = record {
  each = λ e x there. elim (cases_lt x n) [
    | inl low ↦ inverse.below e x low
    | inr high ↦ inverse.above e x high ∙ sym (ap (times e) (past x high))
  ];
}

-- marks of the first few that pass
pub record MarksBelow (n : ℕ) (test : ℕ → Bool) (room : ℕ) (marks : List ℕ) : Type 0 where
  pub long : room ≤ length marks
  pub below : (i : ℕ) → i < n → get_or marks i 0 ≡ mark_of (test i)
  pub above : (i : ℕ) → n ≤ i → get_or marks i 0 ≡ 0

pub MarksBelow-mark : (n k : ℕ) (test : ℕ → Bool) (room : ℕ) (marks : List ℕ) → MarksBelow n test room marks → k ≡ n → n < room → test n ≡ true → MarksBelow (n + 1) test room (set marks k 1)
MarksBelow-mark n k test room marks so_far k_is inside passes = record {
  long = subst (λ (l : ℕ). room ≤ l) (sym (length-set marks k 1)) so_far.long;
  below = λ i low. elim (cases_eq i k) [
    | inl q ↦ ap (λ (j : ℕ). get_or (set marks k 1) j 0) q ∙ get_or-set_same marks k 1 0 (omega (arith, so_far.long)) ∙ sym (ap mark_of (ap test (q ∙ k_is) ∙ passes))
    | inr differs ↦ get_or-set_other marks k i 1 0 differs ∙ so_far.below i (omega arith)
  ];
  above = λ i high. get_or-set_other marks k i 1 0 (λ q. omega arith) ∙ so_far.above i (omega arith);
}

pub MarksBelow-skip : (n : ℕ) (test : ℕ → Bool) (room : ℕ) (marks : List ℕ) → MarksBelow n test room marks → test n ≡ false → MarksBelow (n + 1) test room marks
MarksBelow-skip n test room marks so_far fails = record {
  long = so_far.long;
  below = λ i low. elim (cases_eq i n) [
    | inl q ↦ so_far.above i (omega arith) ∙ sym (ap mark_of (ap test q ∙ fails))
    | inr differs ↦ so_far.below i (omega arith)
  ];
  above = λ i high. so_far.above i (omega arith);
}

-- either, as it comes
pub CountsDown-more : (counts ready new_counts new_ready last numbers : List ℕ) (i n v : ℕ) → CountsDown counts ready new_counts new_ready (take i numbers) → i < length numbers → n ≡ get_or numbers i 0 → n < length counts → length counts ≤ length ready → v + 1 ≡ get_or new_counts n 0 → last ≡ cond (eqb v 0) (set new_ready n 1) new_ready → CountsDown counts ready (set new_counts n v) last (take (i + 1) numbers)
CountsDown-more counts ready new_counts new_ready last numbers i n v down inside is there room took last_is = elim (cases_eq v 0) [
  | inl none ↦ subst (λ (xs : List ℕ). CountsDown counts ready (set new_counts n v) xs (take (i + 1) numbers))
      (sym (last_is ∙ ap (λ (b : Bool). cond b (set new_ready n 1) new_ready) (eq-eqb v 0 none)))
      (CountsDown-freed counts ready new_counts new_ready numbers i n v down inside is there room took none)
  | inr some ↦ subst (λ (xs : List ℕ). CountsDown counts ready (set new_counts n v) xs (take (i + 1) numbers))
      (sym (last_is ∙ ap (λ (b : Bool). cond b (set new_ready n 1) new_ready) (ne_eqb v 0 some)))
      (CountsDown-kept counts ready new_counts new_ready numbers i n v down inside is there took (omega arith))
]
