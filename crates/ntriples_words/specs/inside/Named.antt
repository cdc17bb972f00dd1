-- The words of a triple that are there. Definitions only.
use Rattle.std.specs.Prelude.{Bool, ◌&&◌, ltb}
use Rattle.spec.specs.declared.Triple.{Triple}

-- Whether no word of a row is 0.
unfoldable pub is_named : Triple → Bool
is_named r = ltb 0 r.subject && (ltb 0 r.property && ltb 0 r.object)
