-- A plan goes on, step by step: what is looked up is there, or nothing speaks against it.
use Rattle.std.proofs.Common.{◌≡◌, Bool, false, Option, Some, ap}
use Rattle.rep_types.specs.declared.refusal.Refusal.{Refusal}
use Rattle.rep_types.specs.declared.reply.Reply.{Reply}
use Rattle.rep_model.specs.Plan.{Plan, Finds, Refuses, told}
use Rattle.rep_model.specs.declared.machine.Machine.{Machine}

pub found : {X : Type 0} (o : Option X) (x : X) (why : Refusal) (rest : X → Plan) (said : Reply) (m : Machine) → o ≡ Some x → told (Finds o why rest) said m ≡ told (rest x) said m
found o x why rest said m e = ap (λ p. told (Finds p why rest) said m) e

pub allowed : (b : Bool) (why : Refusal) (rest : Plan) (said : Reply) (m : Machine) → b ≡ false → told (Refuses b why rest) said m ≡ told rest said m
allowed b why rest said m e = ap (λ c. told (Refuses c why rest) said m) e
