-- What holds of every content of a section in the middle; the states are this project's own.
use Rattle.wasm_ast.specs.declared.modules.WModule.{WModule}
use Rattle.wasm_items.specs.Residuals.{WantsAByte}
use Rattle.wasm_contents.specs.declared.content.Content.{Content}
use Rattle.wasm_contents.specs.Contents.{rest_of_content}

abbrev pub EachWantsAByte : Type 0
EachWantsAByte = (m : WModule) (state : Content) → WantsAByte (rest_of_content m state)
