use Rattle.fd_templates.specs.declared.fault.TemplateFault.{TemplateFault}
use Rattle.fd_templates.specs.declared.fault.TemplateFault.TheVariants as template
use Rattle.fd_packing.specs.declared.fault.FieldFault.{FieldFault}
use Rattle.fd_packing.specs.declared.fault.FieldFault.TheVariants.{Template, BadLength}

-- a fault of the template is one of the field
abbrev pub of_template : TemplateFault → FieldFault
of_template (template.Other number) = Template number
of_template (template.BadLength said) = BadLength said
