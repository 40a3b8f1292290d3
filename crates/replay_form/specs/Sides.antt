-- The sides of functions and the layout, in the types of the code.
use Rattle.history_spec.specs.Projection as projection
use Rattle.replay_form.specs.declared.layouts.Layout.{Layout}
use Rattle.replay_form.specs.declared.layouts.Side.{Side}
use Rattle.replay_form.specs.declared.layouts.Side.TheVariants as code

-- the side of a function in the definition of projections, for the side that the code returns
abbrev pub side_of : Side → projection.Side
side_of code.Import = projection.Import
side_of code.Original = projection.Original
side_of code.Appended = projection.Appended

-- the layout in the definition of projections, for a layout of the code
abbrev pub as_layout : Layout → projection.Layout
as_layout layout = record { imports = layout.imports; defined = layout.defined }
