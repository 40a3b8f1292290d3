-- If no import has a fault, each import is matched, and the supply is what is made for the imports.
use Rattle.std.proofs.Common.{◌≡◌, ℕ, Option, Some, None, Ok, refl}
use Rattle.host_script.specs.declared.scripts.Supply.{Supply}
use Rattle.host_script.specs.declared.scripts.LinkFault.{LinkFault}
use Rattle.host_script.specs.Supply.{ImportMatch, Nothing, Unlike, Alike, fault_or, supply_unless}

pub no_fault : (s : ImportMatch) (at : ℕ) (later : Option LinkFault) → fault_or s at later ≡ None
    → (s ≡ Alike) × (later ≡ None)
no_fault Nothing at later h = cc
no_fault Unlike at later h = cc
no_fault Alike at later h = (refl, h)

pub no_link_fault : (o : Option LinkFault) (made supply : Supply) → supply_unless o made ≡ Ok supply
    → (o ≡ None) × (made ≡ supply)
no_link_fault None made supply h = (refl, cc)
no_link_fault (Some fault) made supply h = cc
