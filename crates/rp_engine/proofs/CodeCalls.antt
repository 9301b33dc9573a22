-- A call of code, by what stands at its place.
use Rattle.std.proofs.Common.{◌≡◌, Option, Some, None, refl}
use Rattle.std.specs.Prelude.{IsSomeAnd, List, option_map}
use Rattle.rp_base.specs.declared.value.Oid.{Oid}
use Rattle.rp_base.specs.declared.value.Side.{Side}
use Rattle.rp_meaning.specs.Binding.{Arguments}
use Rattle.rp_meaning.specs.Calls.{found_call, object_call}
use Rattle.rp_meaning.specs.Frame.{Frame}
use Rattle.rp_meaning.specs.State.{State}
use Rattle.rp_store.specs.Heap.{Owned}
use Rattle.rp_store.specs.Object as object
use Rattle.rp_store.specs.Object.{Content}
use Rattle.rp_store.specs.declared.object.Callee.TheVariants as callee
use Rattle.rp_access.specs.Callees.{IsCode}
use Rattle.rp_engine.specs.DefinitionSteps.{code_call, code_of}

module _ (heap : List Owned) (at : Oid) (a : Arguments) (f : Frame) (s : State) where
  code_object : (owner : Side) (c : Content) → IsCode heap at c → object_call at owner c a f s ≡ code_of at owner c a f s
  code_object owner (object.list vs) is = absurd is
  code_object owner (object.tuple vs) is = absurd is
  code_object owner (object.dict es) is = absurd is
  code_object owner (object.instance of fields) is = refl
  code_object owner (object.class name declared methods) is = refl
  code_object owner (object.function name unit block within defaults) is = refl
  code_object owner (object.method receiver (callee.Function function)) is = refl
  code_object owner (object.method receiver (callee.Native id)) is = absurd is
  code_object owner (object.scope block parent slots) is = absurd is

  -- code is called as it is in the meaning
  pub code_found : (o : Option Owned) → IsSomeAnd (option_map (λ (o : Owned). o.content) o) (IsCode heap at) → found_call at o a f s ≡ code_call at o a f s
  code_found None is = absurd is
  code_found (Some o) is = code_object o.owner o.content is
