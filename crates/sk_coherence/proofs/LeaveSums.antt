-- Copies of a store that are looked for among those that it lists.
use Rattle.std.proofs.Common.{◌≡◌, ◌≢◌, ℕ, ◌+◌, ◌<◌, ◌++◌, take, drop, List, length, slice_index, Option, Some, None, IfSome, IsSome, option_map, arith, refl, sym, subst, ap, ◌∙◌}
use Rattle.sk_ranges.specs.declared.state.State.TheVariants.{Owner}
use Rattle.sk_copy_states.specs.declared.held.Held.{Held}
use Rattle.sk_copy_states.specs.Held.{IsFit}
use Rattle.sk_copy_states.specs.Copies.{LiesAmong, HasRoomIn, IsReady, home_in, store_in, state_in}
use Rattle.sk_base.specs.Shape.{cells_of}
use Rattle.sk_copy_states.specs.Stores.{StoreView, copies_in, changes_in, len_in}
use Rattle.sk_coherence_laws.specs.Directory.{DirectoryView, copy_at, store_at, IsSound}
use Rattle.sk_coherence_laws.specs.Frees.{FreesCopy, FreesSome}
use Rattle.sk_coherence_laws.specs.Retires.{Thins, IsFreeing, IsLikeBut, Leads}
use Rattle.sk_coherence_laws.specs.Serves.{unlisted}
use Rattle.sk_coherence_laws.proofs.FreeLemmas.{length_without}
use Rattle.sk_coherence_laws.proofs.LeadsLemmas.{leads-trans}
use Rattle.sk_coherence_laws.proofs.LeaveLemmas.{store_among, thins-free, thins-trans, leads-free}

pub none_among : (d : DirectoryView) (s lo hi : ℕ) → IsSound d
    → ((k : ℕ) → k < length (copies_in (store_at d s)) → LiesAmong s lo hi (home_in (copy_at d (slice_index (copies_in (store_at d s)) k))) → ⊥)
    → (q : ℕ) → LiesAmong s lo hi (home_in (copy_at d q)) → ⊥
none_among d s lo hi sound none q is =
    let c = sound.complete s q (store_among s lo hi (home_in (copy_at d q)) is) in
    none c.0 c.1 (subst (λ (x : ℕ). LiesAmong s lo hi (home_in (copy_at d x))) (sym c.2) is)

pub none_owned : (d : DirectoryView) (s : ℕ) → IsSound d
    → ((k : ℕ) → k < length (copies_in (store_at d s)) → (i : ℕ) → state_in (copy_at d (slice_index (copies_in (store_at d s)) k)) i ≢ Owner)
    → (q i : ℕ) → store_in (copy_at d q) ≡ Some s → state_in (copy_at d q) i ≢ Owner
none_owned d s sound none q i is own =
    let c = sound.complete s q is in
    none c.0 c.1 i (ap (λ x. state_in (copy_at d x) i) c.2 ∙ own)

-- a copy with room for one change more than others is ready for it
ready_more : (o : Option Held) (n : ℕ) → IfSome o IsFit → HasRoomIn (n + 1) o → IsReady 1 o
ready_more None n fit room = tt
ready_more (Some held) n fit room = (fit, omega (arith, room))

pub ready_listed : (d : DirectoryView) (s : ℕ) → IsSound d
    → ((q : ℕ) → store_in (copy_at d q) ≡ Some s → HasRoomIn (changes_in (store_at d s) + 1) (copy_at d q))
    → (k : ℕ) → k < length (copies_in (store_at d s)) → IsReady 1 (copy_at d (slice_index (copies_in (store_at d s)) k))
ready_listed d s sound ready k below =
    let q = slice_index (copies_in (store_at d s)) k in
    ready_more (copy_at d q) (changes_in (store_at d s)) (sound.fit q) (ready q (sound.listed s k below))

-- what is so for each listed copy is so for each copy of the store
pub room_listed : (d n : DirectoryView) (s room : ℕ) → IsSound d → ((q : ℕ) → store_in (copy_at n q) ≡ store_in (copy_at d q))
    → ((k : ℕ) → k < length (copies_in (store_at d s)) → HasRoomIn room (copy_at n (slice_index (copies_in (store_at d s)) k)))
    → (q : ℕ) → store_in (copy_at n q) ≡ Some s → HasRoomIn room (copy_at n q)
room_listed d n s room sound same each q is =
    let c = sound.complete s q (sym (same q) ∙ is) in
    subst (λ (x : ℕ). HasRoomIn room (copy_at n x)) c.2 (each c.0 c.1)

some_eq : (x y : ℕ) → Some x ≡ Some y → x ≡ y
some_eq x y same = cc

some_unlisted : (o p : Option StoreView) → option_map unlisted o ≡ option_map unlisted p → IsSome p → IsSome o
some_unlisted None None e some = some
some_unlisted None (Some p) e some = cc
some_unlisted (Some o) p e some = refl

-- the store is there still
pub store_thinned : (a b : DirectoryView) (s lo hi t : ℕ) → Thins a b s lo hi → IsSome (store_at a t) → IsSome (store_at b t)
store_thinned a b s lo hi t th some = some_unlisted (store_at b t) (store_at a t) (th.stores t) some

-- a store that has such a copy lists something
pub some_among : (d : DirectoryView) (s lo hi q : ℕ) → IsSound d → LiesAmong s lo hi (home_in (copy_at d q)) → 0 < length (copies_in (store_at d s))
some_among d s lo hi q sound is =
    let c = sound.complete s q (store_among s lo hi (home_in (copy_at d q)) is) in omega (arith, c.1)

-- one of the copies that lie so goes
module _ (d n : DirectoryView) (s lo hi id : ℕ) (sound : IsSound d) (is : LiesAmong s lo hi (home_in (copy_at d id))) (f : FreesSome d n id) where
  freed : FreesCopy d n id s f.1 f.2
  freed = subst (λ (x : ℕ). FreesCopy d n id x f.1 f.2) (some_eq f.0 s (sym f.3.home ∙ store_among s lo hi (home_in (copy_at d id)) is)) f.3

  pub one-less : length (copies_in (store_at n s)) + 1 ≡ length (copies_in (store_at d s))
  one-less =
      let after : length (copies_in (store_at n s)) ≡ length f.2.copies = ap (λ o. length (copies_in o)) freed.stores.here in
      let rest : length f.2.copies ≡ length (take freed.loses.copies.at f.1.copies ++ drop (freed.loses.copies.at + 1) f.1.copies) = ap length freed.loses.copies.rest in
      let before : length (copies_in (store_at d s)) ≡ length f.1.copies = ap (λ o. length (copies_in o)) freed.store in
      omega (arith, after, rest, before, length_without f.1.copies freed.loses.copies.at freed.loses.copies.inside)

  pub same-owed : n.owed ≡ d.owed
  same-owed = freed.owed

  pub thins-more : (a : DirectoryView) → Thins a d s lo hi → Thins a n s lo hi
  thins-more a th = thins-trans a d n s lo hi th (thins-free d n id s f.1 f.2 lo hi sound freed is)

  pub leads-more : (a : DirectoryView) → Leads (IsFreeing s lo hi) (λ m. IsLikeBut s lo hi m a) (λ m. IsLikeBut s lo hi m d) a d
      → Leads (IsFreeing s lo hi) (λ m. IsLikeBut s lo hi m a) (λ m. IsLikeBut s lo hi m n) a n
  leads-more a x = leads-trans (IsFreeing s lo hi) (λ m. IsLikeBut s lo hi m a) (λ m. IsLikeBut s lo hi m d) (λ m. IsLikeBut s lo hi m n) a d n x
      (leads-free d n id s f.1 f.2 lo hi sound freed is)

-- how many cells a store has, by its sizes
pub len_shape : (o : Option StoreView) (shape : List ℕ) (n : ℕ) → IsSome o → IfSome o (λ store. shape ≡ store.shape) → n ≡ cells_of shape → n ≡ len_in o
len_shape None shape n there is e = cc
len_shape (Some store) shape n there is e = e ∙ ap cells_of is
