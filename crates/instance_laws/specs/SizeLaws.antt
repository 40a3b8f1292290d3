-- Laws of the sizes of widened modules.
use Rattle.std.specs.Prelude.{◌+◌, ◌<◌, ◌≤◌, List, length}
use Rattle.wasm_syntax.specs.declared.limits.TheConstants.{MAX_FILE_BYTES, MAX_ORIGINAL_BYTES}
use Rattle.wasm_syntax.specs.declared.modules.Module.{Module}
use Rattle.wasm_syntax.specs.Encoding.Shortest.{encoding_of}
use Rattle.wasm_syntax.specs.Index.{func_indices}
use Rattle.wasm_flat.specs.Sizes.{IsShort, list_limit}
use Rattle.instance_spec.specs.declared.decls.Decl.{Decl}
use Rattle.instance_spec.specs.DeclSizes.{decls_size}
use Rattle.instance_spec.specs.Widened.{widened}
use Rattle.instance_spec.specs.WidenedLaws.{HaveFewParameters}

-- a widened module is short enough to be made flat, if the original is, and if its types and functions are not too many
-- with the declared ones
abbrev pub WidenedAreShort : Type 0
WidenedAreShort =
    (m : Module) (decls : List Decl) → IsShort m → HaveFewParameters decls
    → length m.types + length decls < list_limit → length (func_indices m) + length decls < list_limit
    → IsShort (widened m decls)

-- the shortest encoding of a widened module has at most `MAX_ORIGINAL_BYTES`, if the original's has no more bytes than
-- a file may have, and the declarations have no greater size
abbrev pub WidenedAreWithin : Type 0
WidenedAreWithin =
    (m : Module) (decls : List Decl) → length (encoding_of m) ≤ MAX_FILE_BYTES → decls_size decls ≤ MAX_FILE_BYTES
    → length (encoding_of (widened m decls)) ≤ MAX_ORIGINAL_BYTES
