-- What follows from what a script supplies.
use Rattle.std.proofs.Common.{◌≡◌, Option, Some, None, Result, Ok, Err, ap, refl, subst, ◌∙◌}
use Rattle.wasm_syntax.specs.declared.modules.Module.{Module}
use Rattle.host_script.specs.declared.scripts.Script.{Script}
use Rattle.host_script.specs.declared.scripts.Supply.{Supply}
use Rattle.host_script.specs.declared.scripts.LinkFault.{LinkFault}
use Rattle.host_script.specs.Supply.{supply_for, supply_of, supply_unless}
use Rattle.history_spec.specs.Store.{Store}
use Rattle.history_spec.specs.Instantiation.{instantiate}
use Rattle.history_spec.specs.Run.{run_start, start_or_fault, start_with_supply}
use Rattle.host_link.specs.Link.{link_result, with_supply}

for_module : (o : Option LinkFault) (made supply : Supply) → supply_unless o made ≡ Ok supply → made ≡ supply
for_module None made supply is = cc
for_module (Some fault) made supply is = cc

-- the supply is the one that is given
pub supply_is : (m : Module) (script : Script) (supply : Supply) → supply_of m script ≡ Ok supply
    → supply_for m script ≡ supply
supply_is m script supply is = for_module _ (supply_for m script) supply is

-- the module, which has two names here, links as it is instantiated with what the script supplies
pub links_by : (m same : Module) (script : Script) (supply : Supply) (made : Result Store LinkFault) → same ≡ m
    → supply_of same script ≡ Ok supply → instantiate same supply ≡ made → link_result m script ≡ made
links_by m same script supply made e supplies instantiates =
    subst (λ x. link_result x script ≡ made) e (ap (with_supply same) supplies ∙ instantiates)

starts_with : (m : Module) (script : Script) (supplied : Result Supply LinkFault)
    → start_with_supply m script supplied ≡ start_or_fault m script (with_supply m supplied)
starts_with m script (Ok supply) = refl
starts_with m script (Err fault) = refl

-- the run of a module starts from the store that linking makes, or fails as linking does
pub starts_by : (m : Module) (script : Script) (linked : Result Store LinkFault) → link_result m script ≡ linked
    → run_start m script ≡ start_or_fault m script linked
starts_by m script linked links =
    starts_with m script (supply_of m script) ∙ ap (start_or_fault m script) links
