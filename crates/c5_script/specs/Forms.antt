-- Which statement a line is, as it is held.
use Rattle.c5_definitions.specs.Statements.{Form, put, del, need, add, copy}
use Rattle.c5_script.specs.declared.statements.Form.{Form as HeldForm}
use Rattle.c5_script.specs.declared.statements.Form.TheVariants.{Put, Del, Need, Add, Copy}

abbrev pub form_held : HeldForm → Form
form_held Put = put
form_held Del = del
form_held Need = need
form_held Add = add
form_held Copy = copy
