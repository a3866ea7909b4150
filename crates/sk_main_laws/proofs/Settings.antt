-- Settings and inputs of fine worlds.
use Rattle.std.proofs.Common.{◌≡◌, ℕ, suc, ◌≤◌, Bool, true, false, ◌&&◌, ◌||◌, ◌==◌, nat_le, cond, if◌then◌else◌, List, [], ◌∷◌, length, ℤ, pos, negsuc, Option, Some, None, find, slice_get, codes, arith, ap, sym, refl, subst, ◌∙◌, inl, inr}
use Rattle.std.proofs.lemmas.Bool.{and_parts, eqb-true, leb-true, or_cases}
use Rattle.std.proofs.lemmas.Option.{same_Some}
use Rattle.std.specs.List.{list_any}
use Rattle.sk_base.specs.Arithmetic.{wrapped}
use Rattle.sk_base.specs.ArithmeticLaws.{wrapped-in_range}
use Rattle.sk_grammar.specs.Signs.{meant_by}
use Rattle.sk_isa.specs.declared.object.Object.{Object}
use Rattle.sk_isa.specs.declared.object.Plan.{Plan}
use Rattle.sk_isa.specs.declared.object.Signature.{Signature}
use Rattle.sk_call_shapes.specs.CallShapes.{are_overlaps, is_one_of, may_be_set}
use Rattle.sk_main_code.specs.MainSteps.{linked_plan, mode_words, setting_of, setting_words}
use Rattle.sk_main_laws.specs.FineWorlds.{AreInRange, IsFineWorld}
use Rattle.sk_names.specs.Bytes.{same_bytes}
use Rattle.sk_tree.specs.InstanceSettings.{default_settings}
use Rattle.sk_tree.specs.Parameters.{region_of}
use Rattle.sk_tree.specs.declared.settings.Settings.{Settings}
use Rattle.sk_typing.specs.TypingInstances.{has_lines, has_start, is_overlap, is_scan}
use Rattle.sk_world.specs.Calls.{Instance}
use Rattle.sk_world.specs.InstanceSettings.{SettingValue, Start, Exclusive, Columns, Overlap, Edge, Pad, both_overlaps, overlap_limit, overlap_of, overlap_pair, region_type, with_setting}
use Rattle.sk_world.specs.World.{SettingsOf, World, put_settings}

-- an overlap that is in its range
overlap_fits : (value : ℤ) (overlap : ℕ) → overlap_of value ≡ Some overlap → overlap ≤ overlap_limit
overlap_fits (pos n) overlap e = pick (nat_le n overlap_limit) refl e
  where
    pick : (test : Bool) → nat_le n overlap_limit ≡ test → (if test then Some n else None) ≡ Some overlap → overlap ≤ overlap_limit
    pick true is e = subst (λ (o : ℕ). o ≤ overlap_limit) (same_Some n overlap e) (leb-true n overlap_limit is)
    pick false is e = cc
overlap_fits (negsuc n) overlap e = cc

both_fit : (one other : ℤ) (a b : Option ℕ) (pair : ℕ × ℕ) → overlap_of one ≡ a → overlap_of other ≡ b → both_overlaps a b ≡ Some pair
    → (pair.0 ≤ overlap_limit) × (pair.1 ≤ overlap_limit)
both_fit one other None b pair is also e = cc
both_fit one other (Some a) None pair is also e = cc
both_fit one other (Some a) (Some b) pair is also e =
    subst (λ (p : ℕ × ℕ). (p.0 ≤ overlap_limit) × (p.1 ≤ overlap_limit)) (same_Some (a, b) pair e) (overlap_fits one a is, overlap_fits other b also)

pair_fits : (values : List ℤ) (pair : ℕ × ℕ) → overlap_pair values ≡ Some pair → (pair.0 ≤ overlap_limit) × (pair.1 ≤ overlap_limit)
pair_fits [] pair e = cc
pair_fits (one ∷ []) pair e = both_fit one one (overlap_of one) (overlap_of one) pair refl refl e
pair_fits (one ∷ other ∷ more) pair e = both_fit one other (overlap_of one) (overlap_of other) pair refl refl e

-- a new setting that is in its range
pub setting_fits : (instance : Instance) (setting : SettingValue) (before after : Settings) → AreInRange instance before
    → with_setting instance setting before ≡ Some after → AreInRange instance after
setting_fits instance (Start value) before after h e =
    subst (AreInRange instance) (same_Some (record before { start = Some (wrapped instance.ty value) }) after e)
    (record { start = wrapped-in_range instance.ty value; rows = h.rows; columns = h.columns; pad = h.pad })
setting_fits instance (Exclusive exclusive) before after h e =
    subst (AreInRange instance) (same_Some (record before { exclusive = exclusive }) after e)
    (record { start = h.start; rows = h.rows; columns = h.columns; pad = h.pad })
setting_fits instance (Columns columns) before after h e =
    subst (AreInRange instance) (same_Some (record before { columns = columns }) after e)
    (record { start = h.start; rows = h.rows; columns = h.columns; pad = h.pad })
setting_fits instance (Edge edge) before after h e =
    subst (AreInRange instance) (same_Some (record before { edge = edge }) after e)
    (record { start = h.start; rows = h.rows; columns = h.columns; pad = h.pad })
setting_fits instance (Pad value) before after h e =
    subst (AreInRange instance) (same_Some (record before { pad = wrapped (region_type instance) value }) after e)
    (record { start = h.start; rows = h.rows; columns = h.columns; pad = wrapped-in_range (region_type instance) value })
setting_fits instance (Overlap values) before after h e = by (overlap_pair values) refl e
  where
    by : (found : Option (ℕ × ℕ)) → overlap_pair values ≡ found
        → elim found [ Some overlap ↦ Some (record before { overlap = overlap }) | None ↦ None ] ≡ Some after → AreInRange instance after
    by None is e = cc
    by (Some overlap) is e =
        let fit = pair_fits values overlap is in
        subst (AreInRange instance) (same_Some (record before { overlap = overlap }) after e)
        (record { start = h.start; rows = fit.0; columns = fit.1; pad = h.pad })

-- the settings of an instance are set
pub fine_setting : (object : Object) (live : ℕ → Bool) (world : World) (number : ℕ) (plan : Plan) (settings : Settings) → IsFineWorld object live world
    → slice_get object.instances number ≡ Some plan → AreInRange (linked_plan object number plan) settings
    → IsFineWorld object live (put_settings number settings world)
fine_setting object live world number plan settings fine is fits = record {
  containers = fine.containers;
  lives = fine.lives;
  settings = λ other one there. pick other one there (number == other) refl;
  inputs = fine.inputs;
}
  where
    pick : (other : ℕ) (one : Plan) → slice_get object.instances other ≡ Some one → (test : Bool) → (number == other) ≡ test
        → AreInRange (linked_plan object other one)
        (elim (cond test (Some (record { instance = number; settings = settings })) (find (λ (of : SettingsOf). of.instance == other) world.settings)) [
          | Some of ↦ of.settings
          | None ↦ default_settings
        ])
    pick other one there true here =
        let same : number ≡ other = eqb-true number other here in
        let plans : plan ≡ one = same_Some plan one (sym is ∙ ap (λ (n : ℕ). slice_get object.instances n) same ∙ there) in
        subst (λ (n : ℕ). AreInRange (linked_plan object n one) settings) same
        (subst (λ (p : Plan). AreInRange (linked_plan object number p) settings) plans fits)
    pick other one there false here = fine.settings other one there

-- a word that may be set has its setting
meant_there : {A : Type 0} (table : List (List ℕ × A)) (word : List ℕ) → list_any (λ (entry : List ℕ × A). same_bytes entry.0 word) table ≡ true
    → (x : A) × (meant_by table word ≡ Some x)
meant_there [] word e = cc
meant_there {A} (entry ∷ entries) word e = pick (same_bytes entry.0 word) (meant_there entries word) e
  where
    pick : (test : Bool)
        → (list_any (λ (entry : List ℕ × A). same_bytes entry.0 word) entries ≡ true → (x : A) × (meant_by entries word ≡ Some x))
        → (test || list_any (λ (entry : List ℕ × A). same_bytes entry.0 word) entries) ≡ true
        → (x : A) × ((if test then Some entry.1 else meant_by entries word) ≡ Some x)
    pick true later e = (entry.1, refl)
    pick false later e = later e

abbrev IsSet : (word : List ℕ) → List ℤ → Type 0
IsSet word given = (setting : SettingValue) × (setting_of word given ≡ Some setting)

mode_there : (word : List ℕ) (given : List ℤ) → length given ≡ 0
    → list_any (λ (entry : List ℕ × SettingValue). same_bytes entry.0 word) mode_words ≡ true → IsSet word given
mode_there word [] none e = meant_there mode_words word e
mode_there word (value ∷ values) none e = absurd (omega arith)

value_there : (word : List ℕ) (given : List ℤ) (count : ℕ) → length given ≡ suc count
    → list_any (λ (entry : List ℕ × (List ℤ → SettingValue)). same_bytes entry.0 word) setting_words ≡ true → IsSet word given
value_there word [] count some e = absurd (omega arith)
value_there word (value ∷ values) count some e = given_one (meant_there setting_words word e)
  where
    given_one : ((f : List ℤ → SettingValue) × (meant_by setting_words word ≡ Some f)) → IsSet word (value ∷ values)
    given_one (f, is) =
        (f (value ∷ values), ap (λ (found : Option (List ℤ → SettingValue)). elim found [ Some setting ↦ Some (setting (value ∷ values)) | None ↦ None ]) is)

-- the words of the six cases, among those of their table
first_of_three : (a b c : Bool) → (a || false) ≡ true → (a || (b || (c || false))) ≡ true
first_of_three true b c e = refl
first_of_three false b c e = cc

second_of_three : (a b c : Bool) → (b || false) ≡ true → (a || (b || (c || false))) ≡ true
second_of_three true b c e = refl
second_of_three false true c e = refl
second_of_three false false c e = cc

third_of_three : (a b c : Bool) → (c || false) ≡ true → (a || (b || (c || false))) ≡ true
third_of_three true b c e = refl
third_of_three false true c e = refl
third_of_three false false true e = refl
third_of_three false false false e = cc

first_pair : (a b : Bool) (rest : Bool) → (a || (b || false)) ≡ true → (a || (b || rest)) ≡ true
first_pair true b rest e = refl
first_pair false true rest e = refl
first_pair false false rest e = cc

next_pair : (a b : Bool) (rest : Bool) → rest ≡ true → (a || (b || rest)) ≡ true
next_pair true b rest e = refl
next_pair false true rest e = refl
next_pair false false rest e = e

one_value : (values : ℕ) → (values == 1) ≡ true → values ≡ 1
one_value values e = eqb-true values 1 e

overlaps_some : (region : Bool) (values : ℕ) → ((values == 1) || ((values == 2) && region)) ≡ true → (count : ℕ) × (values ≡ suc count)
overlaps_some region values e = elim (or_cases (values == 1) ((values == 2) && region) e) [
  | inl one ↦ (0, eqb-true values 1 one)
  | inr two ↦ (1, eqb-true values 2 (and_parts (values == 2) region two).0)
]

-- the words, and the six cases
module _ (plan : Plan) (first : Signature) (word : List ℕ) (values : ℕ) where
  abbrev is : List ℕ → Bool
  is other = same_bytes other word

  abbrev starts : Bool
  starts = is_one_of (codes "setStartValue" ∷ []) word

  abbrev pads : Bool
  pads = is_one_of (codes "setPad" ∷ []) word

  abbrev overlaps : Bool
  overlaps = is_one_of (codes "setOverlap" ∷ []) word

  abbrev scans : Bool
  scans = is_one_of (codes "ScanMode::Inclusive" ∷ codes "ScanMode::Exclusive" ∷ []) word

  abbrev reduces : Bool
  reduces = is_one_of (codes "ReduceMode::RowWise" ∷ codes "ReduceMode::ColWise" ∷ []) word

  abbrev edges : Bool
  edges = is_one_of (codes "Edge::Duplicate" ∷ codes "Edge::Cyclic" ∷ codes "Edge::Pad" ∷ []) word

  abbrev may_start : Bool
  may_start = starts && has_start plan.skeleton && values == 1

  abbrev may_pad : Bool
  may_pad = pads && is_overlap plan.skeleton && values == 1

  abbrev may_overlap : Bool
  may_overlap = overlaps && is_overlap plan.skeleton && are_overlaps first.params values

  abbrev may_scan : Bool
  may_scan = scans && is_scan plan.skeleton && values == 0

  abbrev may_reduce : Bool
  may_reduce = reduces && has_lines plan.skeleton && values == 0

  abbrev may_edge : Bool
  may_edge = edges && is_overlap plan.skeleton && values == 0

  -- the last of three tests, and the first of them
  word_of : (a b c : Bool) → (a && b && c) ≡ true → a ≡ true
  word_of a b c e = (and_parts a b (and_parts (a && b) c e).0).0

  count_of : (a b c : Bool) → (a && b && c) ≡ true → c ≡ true
  count_of a b c e = (and_parts (a && b) c e).1

  abbrev region : Bool
  region = elim (region_of first.params) [ Some one ↦ one.0 == 2 | None ↦ false ]

  module _ (given : List ℤ) (count : length given ≡ values) where
    no_values : (values == 0) ≡ true → length given ≡ 0
    no_values e = count ∙ eqb-true values 0 e

    start_there : may_start ≡ true → IsSet word given
    start_there e =
        value_there word given 0 (count ∙ eqb-true values 1 (count_of starts (has_start plan.skeleton) (values == 1) e))
        (first_of_three (is (codes "setStartValue")) (is (codes "setPad")) (is (codes "setOverlap")) (word_of starts (has_start plan.skeleton) (values == 1) e))

    pad_there : may_pad ≡ true → IsSet word given
    pad_there e =
        value_there word given 0 (count ∙ eqb-true values 1 (count_of pads (is_overlap plan.skeleton) (values == 1) e))
        (second_of_three (is (codes "setStartValue")) (is (codes "setPad")) (is (codes "setOverlap")) (word_of pads (is_overlap plan.skeleton) (values == 1) e))

    overlap_there : may_overlap ≡ true → IsSet word given
    overlap_there e =
        let some = overlaps_some region values (count_of overlaps (is_overlap plan.skeleton) (are_overlaps first.params values) e) in
        value_there word given some.0 (count ∙ some.1)
        (third_of_three (is (codes "setStartValue")) (is (codes "setPad")) (is (codes "setOverlap"))
        (word_of overlaps (is_overlap plan.skeleton) (are_overlaps first.params values) e))

    scan_there : may_scan ≡ true → IsSet word given
    scan_there e =
        mode_there word given (no_values (count_of scans (is_scan plan.skeleton) (values == 0) e))
        (first_pair (is (codes "ScanMode::Inclusive")) (is (codes "ScanMode::Exclusive"))
        (is (codes "ReduceMode::RowWise") || (is (codes "ReduceMode::ColWise") || edges)) (word_of scans (is_scan plan.skeleton) (values == 0) e))

    reduce_there : may_reduce ≡ true → IsSet word given
    reduce_there e =
        mode_there word given (no_values (count_of reduces (has_lines plan.skeleton) (values == 0) e))
        (next_pair (is (codes "ScanMode::Inclusive")) (is (codes "ScanMode::Exclusive"))
        (is (codes "ReduceMode::RowWise") || (is (codes "ReduceMode::ColWise") || edges))
        (first_pair (is (codes "ReduceMode::RowWise")) (is (codes "ReduceMode::ColWise")) edges (word_of reduces (has_lines plan.skeleton) (values == 0) e)))

    edge_there : may_edge ≡ true → IsSet word given
    edge_there e =
        mode_there word given (no_values (count_of edges (is_overlap plan.skeleton) (values == 0) e))
        (next_pair (is (codes "ScanMode::Inclusive")) (is (codes "ScanMode::Exclusive"))
        (is (codes "ReduceMode::RowWise") || (is (codes "ReduceMode::ColWise") || edges))
        (next_pair (is (codes "ReduceMode::RowWise")) (is (codes "ReduceMode::ColWise")) edges (word_of edges (is_overlap plan.skeleton) (values == 0) e)))

    one_of_six : (a b c d e f : Bool) → (a || b || c || d || e || f) ≡ true → (a ≡ true → IsSet word given) → (b ≡ true → IsSet word given)
        → (c ≡ true → IsSet word given) → (d ≡ true → IsSet word given) → (e ≡ true → IsSet word given) → (f ≡ true → IsSet word given) → IsSet word given
    one_of_six true b c d e f h ha hb hc hd he hf = ha refl
    one_of_six false true c d e f h ha hb hc hd he hf = hb refl
    one_of_six false false true d e f h ha hb hc hd he hf = hc refl
    one_of_six false false false true e f h ha hb hc hd he hf = hd refl
    one_of_six false false false false true f h ha hb hc hd he hf = he refl
    one_of_six false false false false false true h ha hb hc hd he hf = hf refl
    one_of_six false false false false false false h ha hb hc hd he hf = cc

    pub setting_there : may_be_set plan first word values ≡ true → IsSet word given
    setting_there may =
        one_of_six may_start may_pad may_overlap may_scan may_reduce may_edge may start_there pad_there overlap_there scan_there reduce_there edge_there
