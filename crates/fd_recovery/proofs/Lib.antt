mod TakingUp
