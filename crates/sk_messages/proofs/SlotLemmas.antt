-- The messages that slots are, where one comes, one goes or some are spoilt.
use Rattle.std.proofs.Common.{◌≡◌, ℕ, ℤ, suc, zero, ◌+◌, ◌-◌, ◌<◌, ◌≤◌, Bool, true, false, cond, nat_lt, slice_get, is_ok, IsOk, IsSome, Result, subst, List, [], ◌∷◌, ◌++◌, length, map, set, take, drop, slice_range, get_or, is_some, Option, Some, None, sum_by, arith, append_assoc, refl, sym, ap, ◌∙◌, IfSome}
use Rattle.std.specs.Int.{from_bool}
use Rattle.std.specs.Option.{option_map}
use Rattle.std.proofs.lemmas.List.{drop-append-le, take-append-le, length-drop, drop_at, take_all, length-map, length-take-le, length-append, length-set, length_push, drop_more, get_or_at, set_at, map_more, map_push, map-set}
use Rattle.std.proofs.lemmas.List.Sums.{sum_by-cons, sum_by_push}
use Rattle.sk_messages.specs.declared.slots.Slot.{Slot}
use Rattle.std.proofs.lemmas.Option.{slice_get-map}
use Rattle.sk_messages.specs.Messages.{Mail, MessagesView, mail_of, mail_or_none, flies, left_of}
use Rattle.sk_messages.specs.Slots.{len_of, mail_in, mails_in, flies_slot, left_slot, slot_of, slot_or_none, AreInside, IsKept}
use Rattle.sk_messages.proofs.MailLemmas.{mail_at, mail_place, sum_set}

-- the message with these cells
abbrev mail_with : Slot → List ℤ → Mail
mail_with slot cells = record {
  store = slot.sent.store;
  target = slot.sent.target;
  lo = slot.sent.range.lo;
  hi = slot.sent.range.hi;
  cells = cells;
}

range_front : (xs ys : List ℤ) (from count : ℕ) → from + count ≤ length xs → slice_range (xs ++ ys) from (from + count) ≡ slice_range xs from (from + count)
range_front xs ys from count inside =
    ap (take (from + count - from)) (drop-append-le from xs ys (omega arith))
    ∙ take-append-le (from + count - from) (drop from xs) ys (omega (arith, length-drop from xs))

range_back : (xs ys : List ℤ) (count : ℕ) → length ys ≡ count → slice_range (xs ++ ys) (length xs) (length xs + count) ≡ ys
range_back xs ys count is =
    ap (take (length xs + count - length xs)) (drop_at xs ys (length xs) refl) ∙ take_all (length xs + count - length xs) ys (omega arith)

-- messages stay where more cells come behind
mails_front : (pool more : List ℤ) (slots : List (Option Slot)) → AreInside (length pool) slots → mails_in (pool ++ more) slots ≡ mails_in pool slots
mails_front pool more [] inside = refl
mails_front pool more (None ∷ slots) inside = ap (λ (ms : List (Option Mail)). None ∷ ms) (mails_front pool more slots inside.1)
mails_front pool more (Some slot ∷ slots) inside =
    ap (λ (cells : List ℤ). Some (mail_with slot cells) ∷ mails_in (pool ++ more) slots) (range_front pool more slot.at (len_of slot) inside.0)
    ∙ ap (λ (ms : List (Option Mail)). Some (mail_in pool slot) ∷ ms) (mails_front pool more slots inside.1)

-- a message with the cells that come behind
mails_behind : (pool cells : List ℤ) (slots : List (Option Slot)) (slot : Slot) → AreInside (length pool) slots → slot.at ≡ length pool
    → slot.sent.range.lo + length cells ≡ slot.sent.range.hi
    → mails_in (pool ++ cells) (slots ++ Some slot ∷ []) ≡ mails_in pool slots ++ Some (mail_with slot cells) ∷ []
mails_behind pool cells slots slot inside at whole =
    map_push (option_map (mail_in (pool ++ cells))) slots (Some slot)
    ∙ ap (λ (ms : List (Option Mail)). ms ++ Some (mail_in (pool ++ cells) slot) ∷ []) (mails_front pool cells slots inside)
    ∙ ap (λ (own : List ℤ). mails_in pool slots ++ Some (mail_with slot own) ∷ [])
    (ap (λ (from : ℕ). slice_range (pool ++ cells) from (from + len_of slot)) at ∙ range_back pool cells (len_of slot) (omega arith))

pub mails_put : (pool longer cells : List ℤ) (slots pushed : List (Option Slot)) (slot : Slot) → AreInside (length pool) slots → slot.at ≡ length pool
    → slot.sent.range.lo + length cells ≡ slot.sent.range.hi → longer ≡ pool ++ cells → pushed ≡ slots ++ Some slot ∷ []
    → mails_in longer pushed ≡ mails_in pool slots ++ Some (mail_with slot cells) ∷ []
mails_put pool longer cells slots pushed slot inside at whole more one =
    ap (λ (xs : List ℤ). mails_in xs pushed) more ∙ ap (mails_in (pool ++ cells)) one ∙ mails_behind pool cells slots slot inside at whole

pub mails_take : (pool : List ℤ) (slots : List (Option Slot)) (i : ℕ) → mails_in pool (set slots i None) ≡ set (mails_in pool slots) i None
mails_take pool slots i = map-set (option_map (mail_in pool)) slots i None

left_mail : (pool : List ℤ) (slot : Slot) (spoilt : Bool)
    → option_map (mail_in pool) (cond spoilt None (Some slot)) ≡ cond spoilt None (Some (mail_in pool slot))
left_mail pool slot true = refl
left_mail pool slot false = refl

pub mails_left : (pool : List ℤ) (slots : List (Option Slot)) (store lo hi : ℕ)
    → mails_in pool (map (left_slot store lo hi) slots) ≡ map (left_of store lo hi) (mails_in pool slots)
mails_left pool [] store lo hi = refl
mails_left pool (None ∷ slots) store lo hi = ap (λ (ms : List (Option Mail)). None ∷ ms) (mails_left pool slots store lo hi)
mails_left pool (Some slot ∷ slots) store lo hi =
    ap (λ (m : Option Mail). m ∷ mails_in pool (map (left_slot store lo hi) slots)) (left_mail pool slot _)
    ∙ ap (λ (ms : List (Option Mail)). left_of store lo hi (Some (mail_in pool slot)) ∷ ms) (mails_left pool slots store lo hi)

-- as many slots as messages are in flight
pub flying_mails : (pool : List ℤ) (slots : List (Option Slot)) → sum_by flies (mails_in pool slots) ≡ sum_by flies_slot slots
flying_mails pool [] = refl
flying_mails pool (None ∷ slots) =
    omega (arith, sum_by-cons flies None (mails_in pool slots), sum_by-cons flies_slot None slots, flying_mails pool slots)
flying_mails pool (Some slot ∷ slots) =
    omega (arith, sum_by-cons flies (Some (mail_in pool slot)) (mails_in pool slots), sum_by-cons flies_slot (Some slot) slots, flying_mails pool slots)

pub flying_le : (slots : List (Option Slot)) → sum_by flies_slot slots ≤ length slots
flying_le [] = omega arith
flying_le (None ∷ slots) = omega (arith, sum_by-cons flies_slot None slots, flying_le slots)
flying_le (Some slot ∷ slots) = omega (arith, sum_by-cons flies_slot (Some slot) slots, flying_le slots)

pub inside_put : (few many : ℕ) (slots : List (Option Slot)) (slot : Slot) → AreInside few slots → few ≤ many → slot.at + len_of slot ≤ many
    → AreInside many (slots ++ Some slot ∷ [])
inside_put few many [] slot inside more here = (here, tt)
inside_put few many (None ∷ slots) slot inside more here = (tt, inside_put few many slots slot inside.1 more here)
inside_put few many (Some other ∷ slots) slot inside more here =
    let first : other.at + len_of other ≤ few = inside.0 in
    (omega arith, inside_put few many slots slot inside.1 more here)

pub inside_take : (count : ℕ) (slots : List (Option Slot)) (i : ℕ) → AreInside count slots → AreInside count (set slots i None)
inside_take count [] i inside = tt
inside_take count (slot ∷ slots) zero inside = (tt, inside.1)
inside_take count (slot ∷ slots) (suc i) inside = (inside.0, inside_take count slots i inside.1)

inside_one : (count : ℕ) (slot : Slot) (spoilt : Bool) → slot.at + len_of slot ≤ count
    → IfSome (cond spoilt None (Some slot)) (λ sent. sent.at + len_of sent ≤ count)
inside_one count slot true inside = tt
inside_one count slot false inside = inside

pub inside_left : (count : ℕ) (slots : List (Option Slot)) (store lo hi : ℕ) → AreInside count slots → AreInside count (map (left_slot store lo hi) slots)
inside_left count [] store lo hi inside = tt
inside_left count (None ∷ slots) store lo hi inside = (tt, inside_left count slots store lo hi inside.1)
inside_left count (Some slot ∷ slots) store lo hi inside = (inside_one count slot _ inside.0, inside_left count slots store lo hi inside.1)

-- a slot more was looked at
pub looked_at : (f : Option Slot → Option Slot) (all now : List (Option Slot)) (at : ℕ) (read left : Option Slot) → at < length all
    → now ≡ map f (take at all) ++ drop at all → read ≡ get_or now at read → left ≡ f read
    → (set now at left ≡ map f (take (at + 1) all) ++ drop (at + 1) all) × (map f (take (at + 1) all) ≡ map f (take at all) ++ left ∷ [])
looked_at f all now at read left below done is gives =
    let front : length (map f (take at all)) ≡ at = length-map (take at all) f ∙ length-take-le at all (omega arith) in
    let parts : now ≡ map f (take at all) ++ get_or all at read ∷ drop (at + 1) all = done ∙ ap (λ (xs : List (Option Slot)). map f (take at all) ++ xs) (drop_more all at read below) in
    let same : read ≡ get_or all at read = is ∙ ap (λ (xs : List (Option Slot)). get_or xs at read) parts ∙ get_or_at (map f (take at all)) (get_or all at read) (drop (at + 1) all) read at front in
    let last : map f (take (at + 1) all) ≡ map f (take at all) ++ left ∷ [] =
    map_more f all at read below ∙ ap (λ (x : Option Slot). map f (take at all) ++ x ∷ []) (sym (gives ∙ ap f same)) in (
      ap (λ (xs : List (Option Slot)). set xs at left) parts ∙ set_at (map f (take at all)) (get_or all at read) (drop (at + 1) all) left at front
          ∙ sym (append_assoc (map f (take at all)) (left ∷ []) (drop (at + 1) all)) ∙ ap (λ (xs : List (Option Slot)). xs ++ drop (at + 1) all) (sym last),
      last,
    )

counted_one : (slot : Option Slot) → from_bool (is_some slot) ≡ flies_slot slot
counted_one None = refl
counted_one (Some slot) = refl

one_at_most : (slot : Option Slot) → flies_slot slot ≤ 1
one_at_most None = omega arith
one_at_most (Some slot) = omega arith

pub counted_more : (before after : List (Option Slot)) (slot : Option Slot) (was here now most : ℕ) → after ≡ before ++ slot ∷ [] → here ≡ from_bool (is_some slot)
    → now ≡ was + here → was ≡ sum_by flies_slot before → was ≤ most → (now ≡ sum_by flies_slot after) × (now ≤ most + 1)
counted_more before after slot was here now most more is sum counted few =
    (omega (arith, counted_one slot, ap (sum_by flies_slot) more, sum_by_push flies_slot before slot), omega (arith, counted_one slot, one_at_most slot))

pub extended : {E : Type 0} (r : Result (Unit {0}) E) (now longer same : List ℤ) → IsOk r → now ≡ cond (is_ok r) longer same → now ≡ longer
extended r now longer same ok is = is ∙ ap (λ (b : Bool). cond b longer same) ok

pub kept_put : (first flying room cells : ℕ) (slots pushed : List (Option Slot)) (pool longer own : List ℤ) (slot : Slot) (places more_places pool_places more_pool : ℕ)
    → IsKept first flying room cells slots pool places pool_places → slot.at ≡ length pool → slot.sent.range.lo + length own ≡ slot.sent.range.hi
    → longer ≡ pool ++ own → pushed ≡ slots ++ Some slot ∷ [] → 0 < room → length own ≤ cells → places ≤ more_places → pool_places ≤ more_pool
    → IsKept first (flying + 1) (room - 1) (cells - length own) pushed longer more_places more_pool
kept_put first flying room cells slots pushed pool longer own slot places more_places pool_places more_pool kept at whole more one some fits wide wide_pool =
    let behind : length longer ≡ length pool + length own = ap length more ∙ length-append pool own in
    let last : length pushed ≡ length slots + 1 = ap length one ∙ length_push slots (Some slot) in
    record {
      counted = omega (arith, kept.counted, ap (sum_by flies_slot) one, sum_by_push flies_slot slots (Some slot));
      inside = subst (λ (xs : List (Option Slot)). AreInside (length longer) xs) (sym one)
          (inside_put (length pool) (length longer) slots slot kept.inside (omega arith) (omega arith));
      slots_fit = omega (arith, kept.slots_fit);
      cells_fit = omega (arith, kept.cells_fit);
      numbers_fit = omega (arith, kept.numbers_fit);
    }

-- of the slot that is looked up
pub slot_inside : (count : ℕ) (slots : List (Option Slot)) (first number : ℕ) (slot : Slot) → AreInside count slots → slot_of slots first number ≡ Some slot
    → slot.at + len_of slot ≤ count
slot_inside count slots first number slot inside found = by_test (nat_lt number first) found
  where
    by_index : (xs : List (Option Slot)) (i : ℕ) → AreInside count xs → slot_or_none (slice_get xs i) ≡ Some slot → slot.at + len_of slot ≤ count
    by_index [] i all here = absurd (cc)
    by_index (None ∷ xs) zero all here = absurd (cc)
    by_index (Some other ∷ xs) zero all here =
        let same : other ≡ slot = cc in
        subst (λ (s : Slot). s.at + len_of s ≤ count) same all.0
    by_index (x ∷ xs) (suc i) all here = by_index xs i all.1 here

    by_test : (is_before : Bool) → cond is_before None (slot_or_none (slice_get slots (number - first))) ≡ Some slot → slot.at + len_of slot ≤ count
    by_test true here = absurd (cc)
    by_test false here = by_index slots (number - first) inside here

-- a message has a cell for each of its indices
pub whole_mail : (pool : List ℤ) (slot : Slot) → slot.at + len_of slot ≤ length pool
    → slot.sent.range.lo + length (mail_in pool slot).cells ≡ slot.sent.range.hi
whole_mail pool slot inside =
    let count : length (mail_in pool slot).cells ≡ slot.at + len_of slot - slot.at =
    length-take-le (slot.at + len_of slot - slot.at) (drop slot.at pool) (omega (arith, length-drop slot.at pool)) in
    omega (arith, slot.sent.range.ordered)

mail_of_slot : (pool : List ℤ) (found : Option (Option Slot)) (is_before : Bool)
    → cond is_before None (mail_or_none (option_map (option_map (mail_in pool)) found)) ≡ option_map (mail_in pool) (cond is_before None (slot_or_none found))
mail_of_slot pool found true = refl
mail_of_slot pool None false = refl
mail_of_slot pool (Some slot) false = refl

-- the message that is looked up is the slot's
mail_at_slot : (pool : List ℤ) (slots : List (Option Slot)) (first number : ℕ)
    → mail_at first (mails_in pool slots) number ≡ option_map (mail_in pool) (slot_of slots first number)
mail_at_slot pool slots first number =
    ap (λ (o : Option (Option Mail)). cond (nat_lt number first) None (mail_or_none o)) (slice_get-map (option_map (mail_in pool)) slots (number - first))
    ∙ mail_of_slot pool (slice_get slots (number - first)) (nat_lt number first)

-- what is true of the message of the slot that was found is true of the message in flight
pub found_mail : (old view : MessagesView) (pool : List ℤ) (slots : List (Option Slot)) (number : ℕ) (found : Option Slot) (P : Mail → Type 0) → view ≡ old
    → view.mails ≡ mails_in pool slots → found ≡ slot_of slots view.first number → IfSome (option_map (mail_in pool) found) P → IfSome (mail_of old number) P
found_mail old view pool slots number found P is mails same holds =
    subst (λ (v : MessagesView). IfSome (mail_of v number) P) is
    (subst (λ (ms : List (Option Mail)). IfSome (mail_at view.first ms number) P) (sym mails)
    (subst (λ (o : Option Mail). IfSome o P) (sym (mail_at_slot pool slots view.first number))
    (subst (λ (o : Option Slot). IfSome (option_map (mail_in pool) o) P) same holds)))

-- a slot is there where a message is in flight
pub slot_there : (pool : List ℤ) (slots : List (Option Slot)) (i : ℕ) (mail : Mail) → slice_get (mails_in pool slots) i ≡ Some (Some mail)
    → (slot : Slot) × (slice_get slots i ≡ Some (Some slot))
slot_there pool slots i mail found = of_slot (slice_get slots i) refl (sym (slice_get-map (option_map (mail_in pool)) slots i) ∙ found)
  where
    of_slot : (o : Option (Option Slot)) → slice_get slots i ≡ o → option_map (option_map (mail_in pool)) o ≡ Some (Some mail)
        → (slot : Slot) × (slice_get slots i ≡ Some (Some slot))
    of_slot None is here = absurd (cc)
    of_slot (Some None) is here = absurd (cc)
    of_slot (Some (Some slot)) is here = (slot, is)

-- the slot of a message in flight
pub flies_there : (pool : List ℤ) (slots : List (Option Slot)) (first number : ℕ) → IsSome (mail_at first (mails_in pool slots) number)
    → (slot : Slot) × (slice_get slots (number - first) ≡ Some (Some slot))
flies_there pool slots first number there = of_mail_there (mail_at first (mails_in pool slots) number) refl there
  where
    of_mail_there : (o : Option Mail) → mail_at first (mails_in pool slots) number ≡ o → IsSome o → (slot : Slot) × (slice_get slots (number - first) ≡ Some (Some slot))
    of_mail_there None found some = absurd (cc)
    of_mail_there (Some mail) found some = slot_there pool slots (number - first) mail (mail_place first (mails_in pool slots) number mail found).1

pub some_fly : (slots : List (Option Slot)) (i : ℕ) (slot : Slot) → slice_get slots i ≡ Some (Some slot) → 1 ≤ sum_by flies_slot slots
some_fly slots i slot found = omega (arith, sum_set flies_slot slots i (Some slot) None found)

pub kept_take : (first flying room cells : ℕ) (slots : List (Option Slot)) (pool : List ℤ) (i : ℕ) (slot : Slot) (places pool_places : ℕ)
    → IsKept first flying room cells slots pool places pool_places → slice_get slots i ≡ Some (Some slot)
    → IsKept first (flying - 1) room cells (set slots i None) pool places pool_places
kept_take first flying room cells slots pool i slot places pool_places kept found =
    record {
      counted = omega (arith, kept.counted, sum_set flies_slot slots i (Some slot) None found);
      inside = inside_take (length pool) slots i kept.inside;
      slots_fit = omega (arith, kept.slots_fit, length-set slots i None);
      cells_fit = kept.cells_fit;
      numbers_fit = omega (arith, kept.numbers_fit, length-set slots i None);
    }

pub kept_left : (first flying room cells : ℕ) (slots left : List (Option Slot)) (pool : List ℤ) (store lo hi counted places pool_places : ℕ)
    → IsKept first flying room cells slots pool places pool_places → left ≡ map (left_slot store lo hi) slots → counted ≡ sum_by flies_slot left
    → IsKept first counted room cells left pool places pool_places
kept_left first flying room cells slots left pool store lo hi counted places pool_places kept is count =
    let same : length left ≡ length slots = ap length is ∙ length-map slots (left_slot store lo hi) in
    record {
      counted = count;
      inside = subst (λ (xs : List (Option Slot)). AreInside (length pool) xs) (sym is) (inside_left (length pool) slots store lo hi kept.inside);
      slots_fit = omega (arith, kept.slots_fit);
      cells_fit = kept.cells_fit;
      numbers_fit = omega (arith, kept.numbers_fit);
    }
