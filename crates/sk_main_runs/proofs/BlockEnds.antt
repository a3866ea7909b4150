-- The end of a block: its names are gone, and its containers are dropped in the order of their declarations.
use Rattle.std.proofs.Common.{◌≡◌, ℕ, suc, ◌+◌, ◌-◌, List, [], ◌∷◌, ◌++◌, length, take, drop, reverse, ℤ, refl, sym, ap, ◌∙◌, subst, arith, length-append}
use Rattle.std.proofs.Math.Seq.{take-append_seam, drop-append_seam}
use Rattle.std.proofs.lemmas.List.{reverse-append}
use Rattle.std.proofs.lemmas.List.Elements.{All-cons, All-head, All-tail}
use Rattle.std.specs.Prelude.{All, Ok, true, false, Bool, not, ◌==◌, if◌then◌else◌, filter}
use Rattle.sk_isa.specs.declared.code.Instr.{Instr}
use Rattle.sk_isa.specs.declared.code.Instr.TheVariants as instr
use Rattle.sk_isa.specs.declared.object.Object.{Object}
use Rattle.sk_main_run.specs.MainNames.{Meant, Scope, State}
use Rattle.sk_main_run.specs.MainNames as tree
use Rattle.sk_main_run.specs.MainRun.{left_name, left_names, left_block}
use Rattle.sk_main_runs.proofs.Agreement.{agree_split, agree_length}
use Rattle.sk_main_runs.proofs.Flows.{Runs}
use Rattle.sk_main_runs.proofs.Runs.{stands, Leads, leads_on, step, leads_same}
use Rattle.sk_main_runs.specs.SameMeaning.{Agree, FunctionsAgree, IsHeld, IsNamed, IsTidy, below_it}
use Rattle.sk_main_scheme.specs.MainScheme.{Named, Number, Whole, Called, dropped}
use Rattle.sk_scheme.specs.Scheme.{Known}
use Rattle.sk_scheme_runs.proofs.Runs.{HasAt, has_front, has_back}
use Rattle.sk_world.specs.World.{Container, World, drop_container}

module _ {A : Type 0} (P : A → Type 0) where
  -- what is left of elements
  all_filter : (test : A → Bool) (xs : List A) → All P xs → All P (filter test xs)
  all_filter test [] all = all
  all_filter test (x ∷ xs) all = by_test (test x) (all_filter test xs (All-tail P x xs all))
    where
      by_test : (b : Bool) → All P (filter test xs) → All P (if b then x ∷ filter test xs else filter test xs)
      by_test true rest = All-cons P x (filter test xs) (All-head P x xs all) rest
      by_test false rest = rest

left-append : (xs ys : Scope) (world : World) → left_names (xs ++ ys) world ≡ left_names ys (left_names xs world)
left-append [] ys world = refl
left-append (x ∷ xs) ys world = left-append xs ys (left_name x.1 world)

-- the latest name goes last
left-last : (one : List ℕ × Meant) (names : Scope) (world : World) → left_names (reverse (one ∷ names)) world ≡ left_name one.1 (left_names (reverse names) world)
left-last one names world = ap (λ (l : Scope). left_names l world) (reverse-append (one ∷ []) names) ∙ left-append (reverse names) (one ∷ []) world

module _ (object : Object) where
  tidy_dropped : (number : ℕ) (world : World) → IsTidy object world → IsTidy object (drop_container number world)
  tidy_dropped number world tidy = record { each = all_filter (IsHeld object) (λ (container : Container). not (container.number == number)) world.containers tidy.each }

  -- code that drops containers comes to an address, and leaves a world
  pub record Drops (at to : ℕ) (slots : List ℤ) (world after : World) : Type 0 where
    pub leads : Leads object (stands at [] slots world) (stands to [] slots after)
    pub tidy : IsTidy object after
    pub left : after.statements_left ≡ world.statements_left

  drop_last : (a b : List ℕ) (named : Named) (meant : Meant) (new : List (List ℕ × Named)) (front : Scope) (held : List ℤ) (bound : ℕ) → IsNamed object named meant held bound
      → (at : ℕ) (slots : List ℤ) (world : World) → HasAt object.main.instrs at (dropped ((a, named) ∷ new))
      → (HasAt object.main.instrs at (dropped new) → Drops at (at + length (dropped new)) slots world (left_names (reverse front) world))
      → Drops at (at + length (dropped ((a, named) ∷ new))) slots world (left_name meant (left_names (reverse front) world))
  drop_last a b (Whole container ty) (tree.Whole number other) new front held bound h at slots world has f =
      let first : List Instr = dropped new in
      let last : Instr = instr.Drop container in
      let r = f (has_front object.main.instrs at first (last ∷ []) has) in
      let at1 : ℕ = at + length first in
      let to : ℕ = at + length (first ++ last ∷ []) in
      let w : World = left_names (reverse front) world in
      let here = (has_back object.main.instrs at first (last ∷ []) has).0 in
      let l = leads_on object _ _ _ (step object last (stands at1 [] slots w) (stands (suc at1) [] slots (drop_container container w)) here refl)
      (leads_same object (suc at1) to [] slots (drop_container container w) (omega (arith, length-append first (last ∷ [])))) in
      subst (λ n. Drops at to slots world (drop_container n w)) (sym h.number_is)
      (record { leads = leads_on object _ _ _ r.leads l; tidy = tidy_dropped container w r.tidy; left = r.left })
  drop_last a b (Number slot ty) (tree.Scalar other value) new front held bound h at slots world has f = f has
  drop_last a b (Called made) (tree.Called instance) new front held bound h at slots world has f = f has
  drop_last a b named meant new front held bound h at slots world has f = absurd h

  pub drops_lead : (new : List (List ℕ × Named)) (front : Scope) (held : List ℤ) (bound : ℕ) → Agree object new front held bound
      → (at : ℕ) (slots : List ℤ) (world : World) → IsTidy object world → HasAt object.main.instrs at (dropped new)
      → Drops at (at + length (dropped new)) slots world (left_names (reverse front) world)
  drops_lead [] [] held bound h at slots world tidy has =
      record { leads = leads_same object at (at + 0) [] slots world (omega arith); tidy = tidy; left = refl }
  drops_lead (one ∷ new) (other ∷ front) held bound h at slots world tidy has =
      subst (λ (w : World). Drops at (at + length (dropped (one ∷ new))) slots world w) (sym (left-last other front world))
      (drop_last one.0 other.0 one.1 other.1 new front held bound h.1 at slots world has
      (λ has1. drops_lead new front held (below_it one.1 bound) h.2 at slots world tidy has1))
  drops_lead new front held bound h at slots world tidy has = absurd h

  -- the names of a block end with it
  pub left_runs : (functions : List (List ℕ × Known)) (new scope : List (List ℕ × Named)) (outer : Scope) (slots : List ℤ) (bound at to : ℕ) (state : State)
      → length scope ≡ length outer → Agree object (new ++ scope) state.scope slots bound → FunctionsAgree object functions state.callables → IsTidy object state.world
      → HasAt object.main.instrs at (dropped new) → at + length (dropped new) ≡ to
      → Runs object functions slots at [] state.world to scope bound (left_block outer state)
  left_runs functions new scope outer slots bound at to state size agree callables tidy has e =
      let r = agree_split object new scope state.scope slots bound agree in
      let count : length state.scope - length outer ≡ length r.front =
      omega (arith, ap length r.is, length-append r.front r.back, agree_length object scope r.back slots bound r.agree, size) in
      let d = drops_lead new r.front slots bound r.new_agree at slots state.world tidy has in
      let back_is : drop (length state.scope - length outer) state.scope ≡ r.back =
      ap (λ n. drop n state.scope) count ∙ ap (λ (l : Scope). drop (length r.front) l) r.is ∙ drop-append_seam r.front r.back in
      let front_is : take (length state.scope - length outer) state.scope ≡ r.front =
      ap (λ n. take n state.scope) count ∙ ap (λ (l : Scope). take (length r.front) l) r.is ∙ take-append_seam r.front r.back in
      let end : State = record state { scope = r.back; world = left_names (reverse r.front) state.world } in
      let runs : Runs object functions slots at [] state.world to scope bound (Ok end) = record {
        after = slots;
        size = refl;
        agree = r.agree;
        callables = callables;
        tidy = d.tidy;
        fewer = omega (arith, d.left);
        leads = leads_on object _ _ _ d.leads (leads_same object (at + length (dropped new)) to [] slots end.world e);
      } in
      subst (λ (s : Scope). Runs object functions slots at [] state.world to scope bound
      (Ok (record state { scope = s; world = left_names (reverse (take (length state.scope - length outer) state.scope)) state.world }))) (sym back_is)
      (subst (λ (s : Scope). Runs object functions slots at [] state.world to scope bound (Ok (record state { scope = r.back; world = left_names (reverse s) state.world }))) (sym front_is) runs)
