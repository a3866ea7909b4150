-- Who waits for what, one more at a time.
use Rattle.std.proofs.Common.{◌≡◌, ◌≢◌, ◌∙◌, ap, sym, subst, ℕ, ◌+◌, ◌<◌, Bool, true, false, cond, eqb, List, [], ◌∷◌, ◌++◌, length, take, set, get_or, replicate, refl, arith, inl, inr, add-zero, Vec}
use Rattle.std.specs.declared.alloc.Global.{Global}
use Rattle.std.proofs.lemmas.Bool.{cases_eq, ne_eqb, eq-eqb}
use Rattle.std.proofs.lemmas.List.{length-set, length-map, get_or-set_same, get_or-set_other, get_or-map, map-set, map_push, replicate_more, take_more}
use Rattle.sk_ranks.specs.Numbers.{many, times, mark_of}
use Rattle.sk_ranks.specs.Followers.{numbers_in, waits, AddsTo}

pub many-append : (test : ℕ → Bool) (xs ys : List ℕ) → many test (xs ++ ys) ≡ many test xs + many test ys
many-append test [] ys = omega arith
many-append test (x ∷ xs) ys = let rest = many-append test xs ys in omega arith

pub times-push : (x who : ℕ) (xs : List ℕ) → times x (xs ++ who ∷ []) ≡ times x xs + mark_of (eqb x who)
times-push x who xs = many-append (eqb x) xs (who ∷ []) ∙ omega arith

-- nobody was added
pub AddsTo-none : (lists : List (List ℕ)) (who : ℕ) → AddsTo lists lists who []
AddsTo-none lists who = record { len = refl; each = λ e x. by (eqb x who) (waits lists e x) }
  where
    by : (same : Bool) (n : ℕ) → n ≡ n + cond same 0 0
    by true n = omega arith
    by false n = omega arith

more : (same : Bool) (before now base : ℕ) (count : ℕ) → now ≡ before + mark_of same → before ≡ base + cond same count 0 → now ≡ base + cond same (count + 1) 0
more true before now base count is was = omega arith
more false before now base count is was = omega arith

-- one more thing that is awaited
pub AddsTo-more : (old lists : List (List ℕ)) (who i e : ℕ) (awaited : List ℕ) → AddsTo old lists who (take i awaited) → i < length awaited → e ≡ get_or awaited i 0 → e < length lists → AddsTo old (set lists e (get_or lists e [] ++ who ∷ [])) who (take (i + 1) awaited)
AddsTo-more old lists who i e awaited adds inside is there =
    let new = set lists e (get_or lists e [] ++ who ∷ []) in
    let taken : (f : ℕ) → times f (take (i + 1) awaited) ≡ times f (take i awaited) + mark_of (eqb f e) =
    λ f. ap (times f) (take_more awaited i 0 inside) ∙ times-push f (get_or awaited i 0) (take i awaited) ∙ ap (λ (n : ℕ). times f (take i awaited) + mark_of (eqb f n)) (sym is) in
    let at_e : (x : ℕ) → waits new e x ≡ waits old e x + cond (eqb x who) (times e (take (i + 1) awaited)) 0 =
    λ x. let now : waits new e x ≡ waits lists e x + mark_of (eqb x who) =
    ap (times x) (get_or-set_same lists e (get_or lists e [] ++ who ∷ []) [] there) ∙ times-push x who (get_or lists e []) in
    let one : times e (take (i + 1) awaited) ≡ times e (take i awaited) + 1 =
    taken e ∙ ap (λ (b : Bool). times e (take i awaited) + mark_of b) (eq-eqb e e refl) in
    more (eqb x who) (waits lists e x) (waits new e x) (waits old e x) (times e (take i awaited)) now (adds.each e x)
    ∙ ap (λ (n : ℕ). waits old e x + cond (eqb x who) n 0) (sym one) in
    let at_other : (f x : ℕ) → f ≢ e → waits new f x ≡ waits old f x + cond (eqb x who) (times f (take (i + 1) awaited)) 0 =
    λ f x other.
    let none : times f (take (i + 1) awaited) ≡ times f (take i awaited) =
    taken f ∙ ap (λ (b : Bool). times f (take i awaited) + mark_of b) (ne_eqb f e other) ∙ add-zero _ in
    ap (times x) (get_or-set_other lists e f (get_or lists e [] ++ who ∷ []) [] other) ∙ adds.each f x
    ∙ ap (λ (n : ℕ). waits old f x + cond (eqb x who) n 0) (sym none) in
    record {
      len = length-set lists e (get_or lists e [] ++ who ∷ []) ∙ adds.len;
      each = λ f x. elim (cases_eq f e) [
        | inl same ↦ subst (λ (k : ℕ). waits new k x ≡ waits old k x + cond (eqb x who) (times k (take (i + 1) awaited)) 0) (sym same) (at_e x)
        | inr other ↦ at_other f x other
      ];
    }

-- the same over vectors, one of which got one more
pub AddsTo-push : (old : List (List ℕ)) (lists : List (Vec ℕ Global)) (who i e : ℕ) (awaited : List ℕ) (d now : Vec ℕ Global) → AddsTo old (numbers_in lists) who (take i awaited) → i < length awaited → e ≡ get_or awaited i 0 → e < length lists → now.items ≡ (get_or lists e d).items ++ who ∷ [] → AddsTo old (numbers_in (set lists e now)) who (take (i + 1) awaited)
AddsTo-push old lists who i e awaited d now adds inside is there pushed =
    let length_is : length (numbers_in lists) ≡ length lists = length-map lists (λ (list : Vec ℕ Global). list.items) in
    let step = AddsTo-more old (numbers_in lists) who i e awaited adds inside is (omega arith) in
    let had : get_or (numbers_in lists) e [] ≡ (get_or lists e d).items = get_or-map (λ (list : Vec ℕ Global). list.items) lists e d [] there in
    let items : now.items ≡ get_or (numbers_in lists) e [] ++ who ∷ [] = pushed ∙ ap (λ (xs : List ℕ). xs ++ who ∷ []) (sym had) in
    let after : numbers_in (set lists e now) ≡ set (numbers_in lists) e (get_or (numbers_in lists) e [] ++ who ∷ []) =
    map-set (λ (list : Vec ℕ Global). list.items) lists e now ∙ ap (λ (xs : List ℕ). set (numbers_in lists) e xs) items in
    subst (λ (new : List (List ℕ)). AddsTo old new who (take (i + 1) awaited)) (sym after) step

-- one more list, with nobody on it
pub numbers_in-push : (lists : List (Vec ℕ Global)) (list : Vec ℕ Global) (n : ℕ) → numbers_in lists ≡ replicate n [] → list.items ≡ [] → numbers_in (lists ++ list ∷ []) ≡ replicate (n + 1) []
numbers_in-push lists list n before empty =
    map_push (λ (v : Vec ℕ Global). v.items) lists list
    ∙ ap (λ (first : List (List ℕ)). first ++ list.items ∷ []) before
    ∙ ap (λ (last : List ℕ). replicate n [] ++ last ∷ []) empty
    ∙ replicate_more n []
