-- Programs of vectors run as their sources.
use Rattle.std.proofs.Common.{◌≡◌, ℕ, ap, ◌∙◌}
use Rattle.std.specs.Prelude.{List, Some, slice_get}
use Rattle.sk_isa.specs.declared.object.Object.{Object}
use Rattle.sk_main_fits.specs.Mains.{known_in, main_of}
use Rattle.sk_main_fits.specs.Vectors.{IsOfVectors}
use Rattle.sk_main_runs.proofs.Compiled.{compiled_from}
use Rattle.sk_main_runs.proofs.Functions.{functions_agree}
use Rattle.sk_main_runs.proofs.MapInstances.{map_instance}
use Rattle.sk_main_runs.proofs.Whole.{main_runs_alike}
use Rattle.sk_main_runs.specs.Maps.{IsMapPlan}
use Rattle.sk_main_runs.specs.RunsAlike.{IsAlike, judgements_in}
use Rattle.sk_main_runs.specs.Vectors.{CompiledVectorsRunAsSource, IsCompiledFrom, VectorsRunAsSource}
use Rattle.sk_main_scheme.specs.Objects.{object_of}
use Rattle.sk_tree.specs.Skeletons.{elements_of}
use Rattle.sk_tree.specs.declared.tree.Instance as instances
use Rattle.sk_tree.specs.declared.tree.Program.{Program}
use Rattle.sk_tree.specs.declared.tree.Skeleton.{Skeleton}

map_plan : (program : Program) (object : Object) → IsOfVectors program → IsCompiledFrom program object → (number : ℕ) (instance : instances.Instance)
    → slice_get (main_of program).behind.instances number ≡ Some instance → IsMapPlan object (known_in program) (judgements_in program) number instance
map_plan program object vectors compiled number instance e =
    let m = vectors.maps number instance e in
    let p = compiled.plans number instance e in
    let first : slice_get instance.functions 0 ≡ Some m.name = ap (λ (l : List (List ℕ)). slice_get l 0) m.one in
    let f = p.function m.name m.known first m.found in
    record {
      plan = p.plan;
      there = p.there;
      skeleton = m.skeleton;
      plan_skeleton = p.skeleton ∙ m.skeleton;
      name = m.name;
      first = first;
      known = m.known;
      found = m.found;
      function = f.0;
      elements = f.1 ∙ ap (λ (s : Skeleton). elements_of s instance.numbers m.known.kinds) m.skeleton;
      params = f.2;
      ret = f.3;
      scalars = m.scalars;
      safe = p.safe;
    }

vectors_alike : (program : Program) (object : Object) → IsOfVectors program → IsCompiledFrom program object → IsAlike object program
vectors_alike program object vectors compiled = record {
  code = compiled.code;
  slots = compiled.slots;
  containers = compiled.containers;
  names = compiled.names;
  fits = vectors.fits;
  functions = functions_agree program object compiled.means vectors.scalars compiled.signatures;
  instances = λ number instance e callables agree.
      map_instance object (known_in program) (judgements_in program) number instance (map_plan program object vectors compiled number instance e) callables agree;
}

-- the run of the object of a program of vectors is that of the program
pub vectors_run : VectorsRunAsSource
vectors_run program object vectors compiled inputs bound dump over = main_runs_alike program object (vectors_alike program object vectors compiled) inputs bound dump over

-- the same of the object that the program is compiled to
pub compiled_vectors_run : CompiledVectorsRunAsSource
compiled_vectors_run program vectors means names inputs bound dump over =
    vectors_run program (object_of program) vectors (compiled_from program vectors means names) inputs bound dump over
