-- What a list of messages with one more, one less or some less in flight has to do with the list before.
use Rattle.std.proofs.Common.{◌≡◌, ◌≢◌, ℕ, suc, zero, ◌+◌, ◌-◌, ◌<◌, ◌≤◌, ◌==◌, ◌&&◌, Bool, true, false, cond, List, [], ◌∷◌, ◌++◌, length, map, set, Option, Some, None, slice_get, IfSome, nat_lt, sum_by, arith, refl, sym, subst, ap, ◌∙◌, ⊎_elim}
use Rattle.std.proofs.lemmas.Bool.{cases_lt, lt-ltb, le-ltb}
use Rattle.std.proofs.lemmas.List.{length-map, length_push, length-set}
use Rattle.std.proofs.lemmas.List.Sums.{sum_by-cons, sum_by_push}
use Rattle.std.proofs.lemmas.Option.{slice_get-map, slice_get_within}
use Rattle.std.specs.Option.{option_map}
use Rattle.sk_spaces.specs.Machine.{do_overlap}
use Rattle.sk_messages.specs.Messages.{Mail, MessagesView, mail_of, mail_or_none, next_of, flies, flies_to, flying_in, left_of, IsSame, Puts, Takes, Spoils}

abbrev pub if_before : Bool → Option Mail → Option Mail
if_before is_before mail = cond is_before None mail

-- the message with this number, where the first of the list has the number first
abbrev pub mail_at : ℕ → List (Option Mail) → ℕ → Option Mail
mail_at first mails number = if_before (nat_lt number first) (mail_or_none (slice_get mails (number - first)))

-- what is looked up of a number before the first, and of any other
by_place : (P : Option Mail → Type 0) (first number : ℕ) (mail : Option Mail) → (number < first → P None) → (first ≤ number → P mail)
    → P (if_before (nat_lt number first) mail)
by_place P first number mail before after =
    ⊎_elim
    (λ (below : number < first). subst (λ (b : Bool). P (if_before b mail)) (sym (lt-ltb number first below)) (before below))
    (λ (above : first ≤ number). subst (λ (b : Bool). P (if_before b mail)) (sym (le-ltb number first above)) (after above))
    (cases_lt number first)

at_place : (first number : ℕ) (mail : Option Mail) → first ≤ number → if_before (nat_lt number first) mail ≡ mail
at_place first number mail above = ap (λ (b : Bool). if_before b mail) (le-ltb number first above)

-- two lists that differ at most at one place
alike : (first number k : ℕ) (mails changed : List (Option Mail)) → first ≤ number
    → ((i : ℕ) → i ≢ number - first → slice_get changed i ≡ slice_get mails i) → k ≢ number → mail_at first changed k ≡ mail_at first mails k
alike first number k mails changed above others apart =
    by_place (λ (m : Option Mail). m ≡ mail_at first mails k) first k (mail_or_none (slice_get changed (k - first)))
    (λ (below : k < first). sym (ap (λ (b : Bool). if_before b (mail_or_none (slice_get mails (k - first)))) (lt-ltb k first below)))
    (λ (from : first ≤ k).
    ap mail_or_none (others (k - first) (λ (same : k - first ≡ number - first). apart (omega arith)))
    ∙ sym (at_place first k (mail_or_none (slice_get mails (k - first))) from))

pub push_here : {X : Type 0} (xs : List X) (x : X) → slice_get (xs ++ x ∷ []) (length xs) ≡ Some x
push_here [] x = refl
push_here (y ∷ ys) x = push_here ys x

push_others : {X : Type 0} (xs : List X) (x : X) (i : ℕ) → i ≢ length xs → slice_get (xs ++ x ∷ []) i ≡ slice_get xs i
push_others [] x zero apart = absurd (apart refl)
push_others [] x (suc i) apart = refl
push_others (y ∷ ys) x zero apart = refl
push_others (y ∷ ys) x (suc i) apart = push_others ys x i (λ same. apart (ap suc same))

set_here : {X : Type 0} (xs : List X) (i : ℕ) (x : X) → i < length xs → slice_get (set xs i x) i ≡ Some x
set_here [] i x inside = absurd (omega arith)
set_here (y ∷ ys) zero x inside = refl
set_here (y ∷ ys) (suc i) x inside = set_here ys i x (omega arith)

set_others : {X : Type 0} (xs : List X) (i k : ℕ) (x : X) → k ≢ i → slice_get (set xs i x) k ≡ slice_get xs k
set_others [] i k x apart = refl
set_others (y ∷ ys) zero zero x apart = absurd (apart refl)
set_others (y ∷ ys) zero (suc k) x apart = refl
set_others (y ∷ ys) (suc i) zero x apart = refl
set_others (y ∷ ys) (suc i) (suc k) x apart = set_others ys i k x (λ same. apart (ap suc same))

-- a place that is taken out of a sum
pub sum_set : {X : Type 0} (f : X → ℕ) (xs : List X) (i : ℕ) (old new : X) → slice_get xs i ≡ Some old → sum_by f (set xs i new) + f old ≡ sum_by f xs + f new
sum_set f [] i old new found = absurd (cc)
sum_set f (x ∷ xs) zero old new found =
    let here : x ≡ old = cc in
    omega (arith, sum_by-cons f x xs, sum_by-cons f new xs, ap f here)
sum_set f (x ∷ xs) (suc i) old new found =
    omega (arith, sum_by-cons f x xs, sum_by-cons f x (set xs i new), sum_set f xs i old new found)

pub puts : (old new : MessagesView) (number : ℕ) (mail : Mail) → number ≡ next_of old → new.first ≡ old.first
    → new.mails ≡ old.mails ++ Some mail ∷ [] → new.room + 1 ≡ old.room → new.cells + length mail.cells ≡ old.cells → Puts old new number mail
puts old new number mail is first more room cells =
    let place : number - old.first ≡ length old.mails = omega arith in
    record {
      number_is = is;
      here = ap (λ (f : ℕ). mail_at f new.mails number) first ∙ ap (λ (ms : List (Option Mail)). mail_at old.first ms number) more
          ∙ at_place old.first number _ (omega arith)
          ∙ ap (λ (i : ℕ). mail_or_none (slice_get (old.mails ++ Some mail ∷ []) i)) place
          ∙ ap mail_or_none (push_here old.mails (Some mail));
      others = λ k apart. ap (λ (f : ℕ). mail_at f new.mails k) first
          ∙ alike old.first number k old.mails new.mails (omega arith)
          (λ (i : ℕ) (other : i ≢ number - old.first). ap (λ (ms : List (Option Mail)). slice_get ms i) more
          ∙ push_others old.mails (Some mail) i (λ (same : i ≡ length old.mails). other (same ∙ sym place))) apart;
      next = omega (arith, ap length more, length_push old.mails (Some mail));
      flying = ap (sum_by flies) more ∙ sum_by_push flies old.mails (Some mail);
      flying_each = λ copy. ap (sum_by (flies_to copy)) more ∙ sum_by_push (flies_to copy) old.mails (Some mail);
      room = room;
      cells = cells;
    }

of_mail : (found : Option (Option Mail)) (mail : Mail) → mail_or_none found ≡ Some mail → found ≡ Some (Some mail)
of_mail None mail here = absurd (cc)
of_mail (Some m) mail here = ap (λ (o : Option Mail). Some o) here

-- a message that is looked up is in the list
pub mail_place : (first : ℕ) (mails : List (Option Mail)) (number : ℕ) (mail : Mail) → mail_at first mails number ≡ Some mail
    → (first ≤ number) × (slice_get mails (number - first) ≡ Some (Some mail))
mail_place first mails number mail found =
    by_place (λ (m : Option Mail). m ≡ Some mail → (first ≤ number) × (slice_get mails (number - first) ≡ Some (Some mail))) first number
    (mail_or_none (slice_get mails (number - first)))
    (λ (below : number < first) (none : None ≡ Some mail). absurd (cc))
    (λ (above : first ≤ number) (here : mail_or_none (slice_get mails (number - first)) ≡ Some mail).
    (above, of_mail (slice_get mails (number - first)) mail here)) found

pub takes : (old new : MessagesView) (number : ℕ) (mail : Mail) → mail_of old number ≡ Some mail → new.first ≡ old.first
    → new.mails ≡ set old.mails (number - old.first) None → new.room ≡ old.room → new.cells ≡ old.cells → Takes old new number mail
takes old new number mail before first less room cells =
    let p : (old.first ≤ number) × (slice_get old.mails (number - old.first) ≡ Some (Some mail)) = mail_place old.first old.mails number mail before in
    let inside : number - old.first < length old.mails = slice_get_within old.mails (number - old.first) (Some mail) p.1 in
    record {
      before = before;
      here = ap (λ (f : ℕ). mail_at f new.mails number) first ∙ ap (λ (ms : List (Option Mail)). mail_at old.first ms number) less
          ∙ at_place old.first number _ p.0 ∙ ap mail_or_none (set_here old.mails (number - old.first) None inside);
      others = λ k apart. ap (λ (f : ℕ). mail_at f new.mails k) first
          ∙ alike old.first number k old.mails new.mails p.0
          (λ (i : ℕ) (other : i ≢ number - old.first). ap (λ (ms : List (Option Mail)). slice_get ms i) less
          ∙ set_others old.mails (number - old.first) i None other) apart;
      next = omega (arith, ap length less, length-set old.mails (number - old.first) None);
      flying = omega (arith, ap (sum_by flies) less, sum_set flies old.mails (number - old.first) (Some mail) None p.1);
      flying_each = λ copy. omega (arith, ap (sum_by (flies_to copy)) less, sum_set (flies_to copy) old.mails (number - old.first) (Some mail) None p.1);
      room = room;
      cells = cells;
    }

if_some : (o : Option Mail) (P : Mail → Type 0) → ((mail : Mail) → o ≡ Some mail → P mail) → IfSome o P
if_some None P holds = tt
if_some (Some mail) P holds = holds mail refl

pub takes_some : (old view new : MessagesView) (number : ℕ) → view ≡ old → new.first ≡ view.first → new.mails ≡ set view.mails (number - view.first) None
    → new.room ≡ view.room → new.cells ≡ view.cells → IfSome (mail_of old number) (λ mail. Takes old new number mail)
takes_some old view new number is first less room cells =
    subst (λ (v : MessagesView). IfSome (mail_of v number) (λ mail. Takes v new number mail)) is
    (if_some (mail_of view number) (λ mail. Takes view new number mail) (λ mail found. takes view new number mail found first less room cells))

left_or_none : (store lo hi : ℕ) (found : Option (Option Mail)) → mail_or_none (option_map (left_of store lo hi) found) ≡ left_of store lo hi (mail_or_none found)
left_or_none store lo hi None = refl
left_or_none store lo hi (Some mail) = refl

left_le : (f : Option Mail → ℕ) (mail : Mail) (spoilt : Bool) → f None ≡ 0 → f (cond spoilt None (Some mail)) ≤ f (Some mail)
left_le f mail true none = omega arith
left_le f mail false none = omega arith

sum_left : (f : Option Mail → ℕ) (store lo hi : ℕ) (mails : List (Option Mail)) → f None ≡ 0 → sum_by f (map (left_of store lo hi) mails) ≤ sum_by f mails
sum_left f store lo hi [] none = omega arith
sum_left f store lo hi (None ∷ mails) none =
    omega (arith, sum_by-cons f None mails, sum_by-cons f None (map (left_of store lo hi) mails), sum_left f store lo hi mails none)
sum_left f store lo hi (Some mail ∷ mails) none =
    omega (arith, sum_by-cons f (Some mail) mails, sum_by-cons f (left_of store lo hi (Some mail)) (map (left_of store lo hi) mails), left_le f mail ((mail.store == store) && do_overlap lo hi mail.lo mail.hi) none, sum_left f store lo hi mails none)

left_at : (store lo hi first : ℕ) (mails : List (Option Mail)) (number : ℕ)
    → mail_at first (map (left_of store lo hi) mails) number ≡ left_of store lo hi (mail_at first mails number)
left_at store lo hi first mails number = pushed (nat_lt number first)
  where
    pushed : (is_before : Bool) → if_before is_before (mail_or_none (slice_get (map (left_of store lo hi) mails) (number - first)))
        ≡ left_of store lo hi (if_before is_before (mail_or_none (slice_get mails (number - first))))
    pushed true = refl
    pushed false = ap mail_or_none (slice_get-map (left_of store lo hi) mails (number - first))
        ∙ left_or_none store lo hi (slice_get mails (number - first))

pub spoils : (old new : MessagesView) (store lo hi : ℕ) → new.first ≡ old.first → new.mails ≡ map (left_of store lo hi) old.mails
    → new.room ≡ old.room → new.cells ≡ old.cells → Spoils old new store lo hi
spoils old new store lo hi first less room cells =
    record {
      left = λ number. ap (λ (f : ℕ). mail_at f new.mails number) first ∙ ap (λ (ms : List (Option Mail)). mail_at old.first ms number) less
          ∙ left_at store lo hi old.first old.mails number;
      next = omega (arith, ap length less, length-map old.mails (left_of store lo hi));
      flying = omega (arith, ap (sum_by flies) less, sum_left flies store lo hi old.mails refl);
      flying_each = λ copy. omega (arith, ap (sum_by (flies_to copy)) less, sum_left (flies_to copy) store lo hi old.mails refl);
      room = room;
      cells = cells;
    }

-- nothing is spoilt where nothing is in flight
pub none_left : (store lo hi : ℕ) (mails : List (Option Mail)) → sum_by flies mails ≡ 0 → map (left_of store lo hi) mails ≡ mails
none_left store lo hi [] none = refl
none_left store lo hi (None ∷ mails) none =
    ap (λ (ms : List (Option Mail)). None ∷ ms) (none_left store lo hi mails (omega (arith, sum_by-cons flies None mails)))
none_left store lo hi (Some mail ∷ mails) none = absurd (omega (arith, sum_by-cons flies (Some mail) mails))

-- where nothing is in flight, no number has a message
none_at : (mails : List (Option Mail)) (i : ℕ) → sum_by flies mails ≡ 0 → mail_or_none (slice_get mails i) ≡ None
none_at [] i none = refl
none_at (None ∷ mails) zero none = refl
none_at (None ∷ mails) (suc i) none = none_at mails i (omega (arith, sum_by-cons flies None mails))
none_at (Some mail ∷ mails) i none = absurd (omega (arith, sum_by-cons flies (Some mail) mails))

none_to : (copy : ℕ) (mails : List (Option Mail)) → sum_by flies mails ≡ 0 → sum_by (flies_to copy) mails ≡ 0
none_to copy [] none = refl
none_to copy (None ∷ mails) none =
    omega (arith, sum_by-cons (flies_to copy) None mails, none_to copy mails (omega (arith, sum_by-cons flies None mails)))
none_to copy (Some mail ∷ mails) none = absurd (omega (arith, sum_by-cons flies (Some mail) mails))

-- what came or was spoilt is forgotten where nothing is in flight
pub forgets : (old new : MessagesView) → flying_in old ≡ 0 → new.first ≡ next_of old → new.mails ≡ [] → IsSame old new
forgets old new none first empty =
    record {
      mails = λ number. ap (λ (ms : List (Option Mail)). mail_at new.first ms number) empty ∙ nothing new.first number ∙ sym (nothing_old number);
      next = omega (arith, ap length empty);
      flying = ap (sum_by flies) empty ∙ sym none;
      flying_each = λ copy. ap (sum_by (flies_to copy)) empty ∙ sym (none_to copy old.mails none);
    }
  where
    nothing : (first number : ℕ) → mail_at first [] number ≡ None
    nothing first number = by_place (λ (m : Option Mail). m ≡ None) first number None (λ below. refl) (λ above. refl)

    nothing_old : (number : ℕ) → mail_at old.first old.mails number ≡ None
    nothing_old number = by_place (λ (m : Option Mail). m ≡ None) old.first number (mail_or_none (slice_get old.mails (number - old.first)))
        (λ below. refl) (λ above. none_at old.mails (number - old.first) none)

-- the same messages with other room
pub same_mails : (old new : MessagesView) → new.first ≡ old.first → new.mails ≡ old.mails → IsSame old new
same_mails old new first mails =
    record {
      mails = λ number. ap (λ (f : ℕ). mail_at f new.mails number) first ∙ ap (λ (ms : List (Option Mail)). mail_at old.first ms number) mails;
      next = omega (arith, ap length mails);
      flying = ap (sum_by flies) mails;
      flying_each = λ copy. ap (sum_by (flies_to copy)) mails;
    }

-- one after another
pub same_trans : (old between new : MessagesView) → IsSame old between → IsSame between new → IsSame old new
same_trans old between new one two =
    record {
      mails = λ number. two.mails number ∙ one.mails number;
      next = two.next ∙ one.next;
      flying = two.flying ∙ one.flying;
      flying_each = λ copy. two.flying_each copy ∙ one.flying_each copy;
    }
