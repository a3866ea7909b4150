-- Statements of main that fit as those of a program of vectors have its form: their containers are vectors, and take no input.
use Rattle.std.proofs.Common.{◌≡◌, ◌∙◌, ℕ, Bool, true, List, [], ◌∷◌, ◌++◌, map, flat_map, refl, sym, ap, subst}
use Rattle.std.proofs.lemmas.Bool.{and_from}
use Rattle.std.proofs.lemmas.List.Folds.{list_all-append}
use Rattle.std.specs.Prelude.{◌&&◌, ◌==◌}
use Rattle.std.specs.List.{list_all}
use Rattle.sk_grammar.specs.ExpressionSpelling.{each}
use Rattle.sk_grammar.specs.StatementSpelling.{at_line}
use Rattle.sk_main_fits.specs.StatementFits.{Judged, judge_step, judged_of, sequence_fits}
use Rattle.sk_main_scheme.specs.MainScheme.{Standing}
use Rattle.sk_plain.proofs.Lists.{all_append}
use Rattle.sk_plain.proofs.Truths.{and_left, and_right}
use Rattle.sk_scheme.specs.Scheme.{Known}
use Rattle.sk_tree.specs.declared.declared.Declared.{Declared}
use Rattle.sk_tree.specs.declared.tree.Instance as instances
use Rattle.sk_tree.specs.declared.tree.Statement.{Statement}
use Rattle.sk_tree.specs.declared.tree.What.{What, What-F, roll-What, map-What, fold-What}
use Rattle.sk_tree.specs.declared.tree.What.TheOpen.{Declare, Assign, Poke, Make, Take, Instance, Set, Call, Print, If, For, Return}
use Rattle.sk_typed_laws.specs.Forms.{VectorForm, all_fit, is_map, vector_form_of, vector_step}
use Rattle.sk_typing.specs.Inputs.{Taken, taken_of, taking_step}
use Rattle.sk_vector_laws.proofs.Emission.{Held, all_held, held_of, held_what, holding_step}
use Rattle.sk_vector_laws.proofs.Levels.{AllInside, at_all, at_each, folds-level}

abbrev pub is_vector : Declared → Bool
is_vector container = container.kind == 1

abbrev pub makes_map : instances.Instance → Bool
makes_map instance = is_map instance.skeleton

-- statements that have the form of those of a program of vectors, with the containers that they declare and the inputs that
-- they take
pub record AreOfVectors (formed : Bool) (held : Held) (taken : List Taken) : Type 0 where
  pub form : formed ≡ true
  pub vectors : list_all is_vector held.containers ≡ true
  pub none : taken ≡ []

record IsVectorly (judged : Judged) (form : VectorForm) (held : Held) (taken : List Taken) : Type 0 where
  light : judged.is_light ≡ true → form.is_light ≡ true
  step : judged.is_step ≡ true → form.is_step ≡ true
  fits : (functions : List (List ℕ × Known)) (standing : Standing) → judged.fits functions standing ≡ true → list_all makes_map held.instances ≡ true
      → AreOfVectors form.fits held taken

abbrev IsVectorlySo : Statement → Type 0
IsVectorlySo s = IsVectorly (judged_of s) (vector_form_of s) (held_of s) (taken_of s)

both_parts : {A : Type 0} (test : A → Bool) (xs ys : List A) → list_all test (xs ++ ys) ≡ true → (list_all test xs ≡ true) × (list_all test ys ≡ true)
both_parts test xs ys e =
    let both = sym (list_all-append test xs ys) ∙ e in
    (and_left (list_all test xs) (list_all test ys) both, and_right (list_all test xs) (list_all test ys) both)

none_both : (xs ys : List Taken) → xs ≡ [] → ys ≡ [] → xs ++ ys ≡ []
none_both xs ys e f = ap (λ (l : List Taken). l ++ ys) e ∙ f

-- statements one after another
each_vectorly : (ss : List Statement) → each IsVectorlySo ss → (functions : List (List ℕ × Known)) (standing : Standing) → sequence_fits (map judged_of ss) functions standing ≡ true
    → list_all makes_map (all_held (map held_of ss)).instances ≡ true → AreOfVectors (all_fit (map vector_form_of ss)) (all_held (map held_of ss)) (flat_map (λ taken. taken) (map taken_of ss))
each_vectorly [] h functions standing fit maps = record { form = refl; vectors = refl; none = refl }
each_vectorly (s ∷ ss) h functions standing fit maps =
    let behind : Standing = ((judged_of s).emits functions standing).behind in
    let here : Bool = (judged_of s).fits functions standing in
    let later : Bool = sequence_fits (map judged_of ss) functions behind in
    let parts = both_parts makes_map (held_of s).instances (all_held (map held_of ss)).instances maps in
    let a = h.0.fits functions standing (and_left here later fit) parts.0 in
    let b = each_vectorly ss h.1 functions behind (and_right here later fit) parts.1 in
    record {
      form = and_from (vector_form_of s).fits (all_fit (map vector_form_of ss)) a.form b.form;
      vectors = all_append is_vector (held_of s).containers (all_held (map held_of ss)).containers a.vectors b.vectors;
      none = none_both (taken_of s) (flat_map (λ taken. taken) (map taken_of ss)) a.none b.none;
    }

abbrev judged_what : What → ℕ → Judged
judged_what = fold-What (ℕ → Judged) Judged judge_step (λ statement. statement.what statement.line)

abbrev form_what : What → VectorForm
form_what = fold-What VectorForm VectorForm vector_step (λ statement. statement.what)

abbrev taken_what : What → ℕ → List Taken
taken_what = fold-What (ℕ → List Taken) (List Taken) taking_step (λ statement. statement.what statement.line)

level_vectorly : (line : ℕ) (level : What-F What Statement) → AllInside IsVectorlySo level
    → IsVectorly (judge_step (map-What What Statement (ℕ → Judged) Judged judged_what judged_of level) line)
    (vector_step (map-What What Statement VectorForm VectorForm form_what vector_form_of level))
    (holding_step (map-What What Statement Held Held held_what held_of level))
    (taking_step (map-What What Statement (ℕ → List Taken) (List Taken) taken_what taken_of level) line)
level_vectorly line (Declare ty name expr) inside = record {
  light = λ e. e;
  step = λ e. e;
  fits = λ functions standing fit maps. record { form = refl; vectors = refl; none = refl };
}
level_vectorly line (Assign name expr) inside = record {
  light = λ e. e;
  step = λ e. e;
  fits = λ functions standing fit maps. record { form = refl; vectors = refl; none = refl };
}
level_vectorly line (Poke name places value) inside = record {
  light = λ e. e;
  step = λ e. e;
  fits = λ functions standing fit maps. record { form = refl; vectors = refl; none = refl };
}
level_vectorly line (Make kind ty name arguments) inside = record {
  light = λ e. e;
  step = λ e. e;
  fits = λ functions standing fit maps.
      let vector : (kind == 1) ≡ true = and_left (kind == 1) _ (and_left _ _ fit) in
      record { form = vector; vectors = and_from (kind == 1) true vector refl; none = refl };
}
level_vectorly line (Take kind ty name input) inside = record {
  light = λ e. e;
  step = λ e. e;
  fits = λ functions standing fit maps. absurd (cc fit);
}
level_vectorly line (Instance instance) inside = record {
  light = λ e. e;
  step = λ e. e;
  fits = λ functions standing fit maps. record { form = and_left (makes_map instance) true maps; vectors = refl; none = refl };
}
level_vectorly line (Set name value) inside = record {
  light = λ e. e;
  step = λ e. e;
  fits = λ functions standing fit maps. absurd (cc fit);
}
level_vectorly line (Call name arguments) inside = record {
  light = λ e. e;
  step = λ e. e;
  fits = λ functions standing fit maps. record { form = refl; vectors = refl; none = refl };
}
level_vectorly line (Print items) inside = record {
  light = λ e. e;
  step = λ e. e;
  fits = λ functions standing fit maps. record { form = refl; vectors = refl; none = refl };
}
level_vectorly line (If test one other) inside = record {
  light = λ e. e;
  step = λ e. e;
  fits = λ functions standing fit maps.
      let parts = both_parts makes_map (all_held (map held_of one)).instances (all_held (map held_of other)).instances maps in
      let a = each_vectorly one inside.0 functions _ (and_right _ _ (and_left _ _ fit)) parts.0 in
      let b = each_vectorly other inside.1 functions _ (and_right _ _ fit) parts.1 in
      record {
        form = and_from (all_fit (map vector_form_of one)) (all_fit (map vector_form_of other)) a.form b.form;
        vectors = all_append is_vector (all_held (map held_of one)).containers (all_held (map held_of other)).containers a.vectors b.vectors;
        none = none_both (flat_map (λ taken. taken) (map taken_of one)) (flat_map (λ taken. taken) (map taken_of other)) a.none b.none;
      };
}
level_vectorly line (For first test step body) inside = record {
  light = λ e. e;
  step = λ e. e;
  fits = λ functions standing fit maps.
      let parts = both_parts makes_map (held_of first).instances ((all_held (map held_of body)).instances ++ (held_of step).instances) maps in
      let more = both_parts makes_map (all_held (map held_of body)).instances (held_of step).instances parts.1 in
      let heads = and_left _ _ fit in
      let loops = and_right _ _ fit in
      let steps = and_left _ _ loops in
      let light = and_left (judged_of first).is_light _ heads in
      let a = inside.0.fits functions standing (and_right (judged_of first).is_light _ heads) parts.0 in
      let b = each_vectorly body inside.2 functions _ (and_right _ _ (and_left _ _ steps)) more.0 in
      let c = inside.1.fits functions _ (and_right _ _ loops) more.1 in
      let firsts : ((vector_form_of first).is_light && (vector_form_of step).is_step) ≡ true =
      and_from (vector_form_of first).is_light (vector_form_of step).is_step (inside.0.light light) (inside.1.step (and_right _ (judged_of step).is_step steps)) in
      record {
        form = and_from ((vector_form_of first).is_light && (vector_form_of step).is_step) (all_fit (map vector_form_of body)) firsts b.form;
        vectors = all_append is_vector (held_of first).containers ((all_held (map held_of body)).containers ++ (held_of step).containers) a.vectors
            (all_append is_vector (all_held (map held_of body)).containers (held_of step).containers b.vectors c.vectors);
        none = b.none;
      };
}
level_vectorly line (Return expr) inside = record {
  light = λ e. e;
  step = λ e. e;
  fits = λ functions standing fit maps. record { form = refl; vectors = refl; none = refl };
}

statement_vectorly : (s : Statement) → IsVectorlySo s
statement_vectorly = at_each IsVectorlySo (λ line level inside.
    subst (λ (j : Judged). IsVectorly j (vector_form_of (at_line line (roll-What level))) (held_of (at_line line (roll-What level))) (taken_of (at_line line (roll-What level))))
    (sym (folds-level judge_step (λ statement. statement.what statement.line) line level))
    (subst (λ (f : VectorForm). IsVectorly (judge_step (map-What What Statement (ℕ → Judged) Judged judged_what judged_of level) line) f (held_of (at_line line (roll-What level))) (taken_of (at_line line (roll-What level))))
    (sym (folds-level vector_step (λ statement. statement.what) line level))
    (subst (λ (h : Held). IsVectorly (judge_step (map-What What Statement (ℕ → Judged) Judged judged_what judged_of level) line)
    (vector_step (map-What What Statement VectorForm VectorForm form_what vector_form_of level)) h (taken_of (at_line line (roll-What level))))
    (sym (folds-level holding_step (λ statement. statement.what) line level))
    (subst (λ (t : List Taken). IsVectorly (judge_step (map-What What Statement (ℕ → Judged) Judged judged_what judged_of level) line)
    (vector_step (map-What What Statement VectorForm VectorForm form_what vector_form_of level)) (holding_step (map-What What Statement Held Held held_what held_of level)) t)
    (sym (folds-level taking_step (λ statement. statement.what statement.line) line level))
    (level_vectorly line level inside)))))

flat_same : (ss : List Statement) → flat_map (λ taken. taken) (map taken_of ss) ≡ flat_map taken_of ss
flat_same [] = refl
flat_same (s ∷ ss) = ap (λ (l : List Taken). taken_of s ++ l) (flat_same ss)

-- the statements of a body
pub statements_vectorly : (ss : List Statement) (functions : List (List ℕ × Known)) (standing : Standing) → sequence_fits (map judged_of ss) functions standing ≡ true
    → list_all makes_map (all_held (map held_of ss)).instances ≡ true → AreOfVectors (all_fit (map vector_form_of ss)) (all_held (map held_of ss)) (flat_map taken_of ss)
statements_vectorly ss functions standing fit maps =
    subst (λ (t : List Taken). AreOfVectors (all_fit (map vector_form_of ss)) (all_held (map held_of ss)) t) (flat_same ss)
    (each_vectorly ss (at_all IsVectorlySo (λ line level inside. statement_vectorly (at_line line (roll-What level))) ss) functions standing fit maps)
